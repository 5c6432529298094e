-- One entry more, behind those that were added or taken out.
use Rattle.std.proofs.Common.{ℕ, List, [], ◌∷◌, ◌++◌, refl, subst}
use Rattle.delay_queue.specs.Queues.{Queue}
use Rattle.delay_queue_c.specs.Slots.{Inserts, InsertsEach, Polls, PollsEach}
use Rattle.delay_queue_c.specs.declared.entry.DqEntry.{DqEntry}

pub inserts_more : (before at : Queue) (es : List DqEntry) (e : DqEntry) (after : Queue) → InsertsEach before es at → Inserts at e after → InsertsEach before (es ++ e ∷ []) after
inserts_more before at [] e after is one = (after, (subst (λ (q : Queue). Inserts q e after) is one, refl))
inserts_more before at (first ∷ es) e after (between, (did, rest)) one = (between, (did, inserts_more between at es e after rest one))

pub polls_more : (before : Queue) (now : ℕ) (at : Queue) (es : List DqEntry) (e : DqEntry) (after : Queue) → PollsEach before now es at → Polls at now e after → PollsEach before now (es ++ e ∷ []) after
polls_more before now at [] e after is one = (after, (subst (λ (q : Queue). Polls q now e after) is one, refl))
polls_more before now at (first ∷ es) e after (between, (did, rest)) one = (between, (did, polls_more between now at es e after rest one))

-- Two executors that stand where one history leads, and what is written of one.
use Rattle.std.proofs.Common.{◌≡◌, ℕ, max, List, [], ◌∷◌, ◌++◌, sym, ap, subst, ◌∙◌}
use Rattle.queue_code.specs.Calls.{Planned}
use Rattle.executor_model.specs.declared.types.Happening.{Happening}
use Rattle.executor_model.specs.declared.types.Happening.TheVariants as h
use Rattle.executor_model.specs.Answers.{Reply}
use Rattle.executor_model.specs.Histories.{HistoryEntry, entry_of, happenings, answer}
use Rattle.executor_model.specs.State.{after}
use Rattle.task_table.specs.declared.image.Image.{Image}
use Rattle.task_table.specs.Tables.{workers_of}
use Rattle.task_table.proofs.Imaged.{one_table}
use Rattle.live_core.specs.declared.frame.ExecutorFrame.{ExecutorFrame}
use Rattle.live_core.specs.Lives.{LiveView, Stands, Calls, Happens, moment_of_call}
use Rattle.live_core.specs.Snapshots.{IsWritten}

-- ---- one history

-- the last reply of a history is the one that it has to be
answered : (new : LiveView) (calls : List Planned) (past : List HistoryEntry) (y : Happening) (r : Reply) → Stands new calls (entry_of y r ∷ past) → r ≡ answer calls (workers_of new.table) past y
answered new calls past y r st = let means = st.table.means in (λ i. record { answer = means.2 i; ends = means.3 i })

both : (new other : LiveView) (calls : List Planned) (past : List HistoryEntry) (y : Happening) (r s : Reply) → workers_of new.table ≡ workers_of other.table → Stands new calls (entry_of y r ∷ past) → Stands other calls (entry_of y s ∷ past) →
    (r ≡ s) × Stands new calls (entry_of y r ∷ past) × Stands other calls (entry_of y r ∷ past)
both new other calls past y r s width a b =
    let same : r ≡ s = answered new calls past y r a ∙ (ap (λ w. answer calls w past y) width ∙ sym (answered other calls past y s b)) in
    (same, a, subst (λ q. Stands other calls (entry_of y q ∷ past)) (sym same) b)

pub calls_alike : (m n new other : LiveView) (p : Planned) (r s : Reply) (calls : List Planned) (past : List HistoryEntry) → Stands m calls past → Stands n calls past → workers_of new.table ≡ workers_of other.table → Calls m new p r → Calls n other p s →
    (r ≡ s) × Stands new (calls ++ p ∷ []) (entry_of h.Call r ∷ past) × Stands other (calls ++ p ∷ []) (entry_of h.Call r ∷ past)
calls_alike m n new other p r s calls past a b width one two = both new other (calls ++ p ∷ []) past h.Call r s width (one calls past a).stands (two calls past b).stands

pub events_alike : (m n new other : LiveView) (y : Happening) (r s : Reply) (calls : List Planned) (past : List HistoryEntry) → Stands m calls past → Stands n calls past → workers_of new.table ≡ workers_of other.table → Happens m new y r → Happens n other y s →
    (r ≡ s) × Stands new calls (entry_of y r ∷ past) × Stands other calls (entry_of y r ∷ past)
events_alike m n new other y r s calls past a b width one two = both new other calls past y r s width (one calls past a).stands (two calls past b).stands

pub count_alike : (m n : LiveView) (calls : List Planned) (past : List HistoryEntry) → Stands m calls past → Stands n calls past → m.count ≡ n.count
count_alike m n calls past a b = sym a.count ∙ b.count

pub moment_alike : (m n : LiveView) (calls : List Planned) (past : List HistoryEntry) (at : ℕ) → Stands m calls past → Stands n calls past → workers_of m.table ≡ workers_of n.table → moment_of_call m at ≡ moment_of_call n at
moment_alike m n calls past at a b width =
    let now : m.table.moment ≡ n.table.moment = sym a.table.shows.moment ∙ (ap (λ w. (after calls w (happenings past)).moment) width ∙ b.table.shows.moment) in
    let earliest : m.earliest ≡ n.earliest = a.clock ∙ sym b.clock in
    (λ i. max at (max (now i) (earliest i)))

-- ---- one snapshot

pub one_executor : (m n : LiveView) (f : ExecutorFrame) (tasks : List Image) (empty : List ℕ) → IsWritten m f tasks empty → IsWritten n f tasks empty → n ≡ record m { ended = n.ended }
one_executor m n f tasks empty a b =
    let table : n.table ≡ m.table = one_table n.table m.table f.table tasks (record { frame = b.frame.table; images = b.tasks }) (record { frame = a.frame.table; images = a.tasks }) in
    let count : n.count ≡ m.count = b.frame.count ∙ sym a.frame.count in
    let accepted : n.accepted ≡ m.accepted = b.frame.accepted ∙ sym a.frame.accepted in
    let earliest : n.earliest ≡ m.earliest = b.frame.earliest ∙ sym a.frame.earliest in
    (λ i. record { table = table i; count = count i; accepted = accepted i; earliest = earliest i; ended = n.ended })

pub stands_there : (m n : LiveView) (f : ExecutorFrame) (tasks : List Image) (empty : List ℕ) → IsWritten m f tasks empty → IsWritten n f tasks empty → (calls : List Planned) (past : List HistoryEntry) → Stands m calls past → Stands n calls past
stands_there m n f tasks empty a b calls past st = subst (λ v. Stands v calls past) (sym (one_executor m n f tasks empty a b)) (record {
  table = st.table;
  made = st.made;
  count = st.count;
  few = st.few;
  clock = st.clock;
  below = st.below;
  behind = st.behind;
  accepted = st.accepted;
})

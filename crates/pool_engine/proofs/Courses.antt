-- Courses: what happened in the history of a book, its clocks and its events.
use Rattle.std.proofs.Common.{◌≡◌, ◌≢◌, ℕ, ◌+◌, ◌<◌, ◌≤◌, Bool, true, false, cond, List, [], ◌∷◌, ◌++◌, reverse, take, length, ◌⊎◌, inl, inr, refl, ap, ◌∙◌, sym, subst, append_assoc, append-nil}
use Rattle.std.specs.Prelude.{IsTrue, ◌↔◌, ◌&&◌, slice_index_or}
use Rattle.std.proofs.lemmas.Bool.{false≢true}
use Rattle.std.proofs.lemmas.List.{append_cancel_left, reverse-reverse, take_all, take_more}
use Rattle.std.proofs.lemmas.List.Elements.{All-more}
use Rattle.executor_model.specs.declared.Happening.{Happening}
use Rattle.executor_model.specs.declared.Happening.TheVariants as h
use Rattle.sched_time.specs.declared.timing.Ending.{Ending}
use Rattle.executor_model.proofs.Flowing.{happenings_from, how_many-more}
use Rattle.queue_code.specs.Calls.{Planned}
use Rattle.worker_pool.specs.Books.{history_for}
use Rattle.pool_engine.specs.PoolRuns.{clocks_of, happened_in, event_count, is_taken}
use Rattle.pool_engine.specs.own.Ended.{AllSoFar, ShowsSoFar}

-- what happened in the history of some happenings is these
pub course_is : (calls : List Planned) (workers : ℕ) (happened : List Happening) → happened_in (history_for calls workers happened) ≡ happened
course_is calls workers happened =
    ap reverse (happenings_from calls workers [] (reverse happened) ∙ append-nil (reverse happened)) ∙ reverse-reverse happened

clocks_of-append : (xs ys : List Happening) → clocks_of (xs ++ ys) ≡ clocks_of xs ++ clocks_of ys
clocks_of-append [] ys = refl
clocks_of-append (h.Call ∷ xs) ys = clocks_of-append xs ys
clocks_of-append (h.Clock t ∷ xs) ys = ap (λ l. t ∷ l) (clocks_of-append xs ys)
clocks_of-append (h.Start w ∷ xs) ys = clocks_of-append xs ys
clocks_of-append (h.Finish w e ∷ xs) ys = clocks_of-append xs ys
clocks_of-append (h.Cancel k ∷ xs) ys = clocks_of-append xs ys
clocks_of-append (h.Purge ∷ xs) ys = clocks_of-append xs ys

-- the clocks of one happening more
clocks_on : (happened : List Happening) (i : ℕ) (d happening : Happening) → i < length happened → happening ≡ slice_index_or happened i d → clocks_of (take (i + 1) happened) ≡ clocks_of (take i happened) ++ clocks_of (happening ∷ [])
clocks_on happened i d happening low next =
    ap clocks_of (take_more happened i d low) ∙ (clocks_of-append (take i happened) (slice_index_or happened i d ∷ [])
    ∙ ap (λ (x : Happening). clocks_of (take i happened) ++ clocks_of (x ∷ [])) (sym next))

-- what the next happening shows is taken from the moments that are left
taken_off : (shows : Bool) (so_far next left rest moments : List ℕ) → ShowsSoFar shows so_far left moments → next ++ rest ≡ left → ShowsSoFar shows (so_far ++ next) rest moments
taken_off true so_far next left rest moments shown same = append_assoc so_far next rest ∙ (ap (λ l. so_far ++ l) same ∙ shown)
taken_off false so_far next left rest moments other same = λ later all. other (next ++ later) (sym (append_assoc so_far next later) ∙ all)

-- where the moments that are left do not begin with what the next happening shows, the first moments are not shown any more
not_taken_off : (shows : Bool) (so_far next left moments : List ℕ) → ShowsSoFar shows so_far left moments → ((later : List ℕ) → left ≢ next ++ later) → ShowsSoFar false (so_far ++ next) left moments
not_taken_off true so_far next left moments shown another =
    λ later all. another later (append_cancel_left so_far left (next ++ later) (shown ∙ (sym all ∙ append_assoc so_far next later)))
not_taken_off false so_far next left moments other another = λ later all. other (next ++ later) (sym (append_assoc so_far next later) ∙ all)

-- one happening more, which shows no moment
silent_on : (happened : List Happening) (i : ℕ) (d happening : Happening) (shows : Bool) (left moments : List ℕ) → i < length happened → happening ≡ slice_index_or happened i d
    → ShowsSoFar shows (clocks_of (take i happened)) left moments → clocks_of (happening ∷ []) ≡ [] → ShowsSoFar shows (clocks_of (take (i + 1) happened)) left moments
silent_on happened i d happening shows left moments low next so_far silent =
    subst (λ l. ShowsSoFar shows l left moments) (sym (clocks_on happened i d happening low next))
    (taken_off shows (clocks_of (take i happened)) (clocks_of (happening ∷ [])) left left moments so_far (ap (λ l. l ++ left) silent))

-- one start or finish more shows no moment
pub run_on : (happened : List Happening) (i : ℕ) (d happening : Happening) (shows : Bool) (left moments : List ℕ) → i < length happened → happening ≡ slice_index_or happened i d
    → ShowsSoFar shows (clocks_of (take i happened)) left moments → ((worker : ℕ) × happening ≡ h.Start worker) ⊎ ((worker : ℕ) × (ending : Ending) × happening ≡ h.Finish worker ending)
    → (is_taken happening ≡ true) × ShowsSoFar shows (clocks_of (take (i + 1) happened)) left moments
run_on happened i d happening shows left moments low next so_far (inl (worker, is)) =
    (ap is_taken is, silent_on happened i d happening shows left moments low next so_far (ap (λ (x : Happening). clocks_of (x ∷ [])) is))
run_on happened i d happening shows left moments low next so_far (inr (worker, ending, is)) =
    (ap is_taken is, silent_on happened i d happening shows left moments low next so_far (ap (λ (x : Happening). clocks_of (x ∷ [])) is))

-- one call, cancel or purge more shows no moment
pub other_on : (happened : List Happening) (i : ℕ) (d happening : Happening) (shows : Bool) (left moments : List ℕ) → i < length happened → happening ≡ slice_index_or happened i d
    → ShowsSoFar shows (clocks_of (take i happened)) left moments → (happening ≡ h.Call) ⊎ (((task : ℕ) × happening ≡ h.Cancel task) ⊎ (happening ≡ h.Purge))
    → (is_taken happening ≡ false) × ShowsSoFar shows (clocks_of (take (i + 1) happened)) left moments
other_on happened i d happening shows left moments low next so_far (inl is) =
    (ap is_taken is, silent_on happened i d happening shows left moments low next so_far (ap (λ (x : Happening). clocks_of (x ∷ [])) is))
other_on happened i d happening shows left moments low next so_far (inr (inl (task, is))) =
    (ap is_taken is, silent_on happened i d happening shows left moments low next so_far (ap (λ (x : Happening). clocks_of (x ∷ [])) is))
other_on happened i d happening shows left moments low next so_far (inr (inr is)) =
    (ap is_taken is, silent_on happened i d happening shows left moments low next so_far (ap (λ (x : Happening). clocks_of (x ∷ [])) is))

-- one clock more shows the first moment that is left
pub shown_on : (happened : List Happening) (i : ℕ) (d happening : Happening) (shows : Bool) (t : ℕ) (left rest moments : List ℕ) → i < length happened → happening ≡ slice_index_or happened i d
    → ShowsSoFar shows (clocks_of (take i happened)) left moments → happening ≡ h.Clock t → t ∷ rest ≡ left → ShowsSoFar shows (clocks_of (take (i + 1) happened)) rest moments
shown_on happened i d happening shows t left rest moments low next so_far is same =
    subst (λ l. ShowsSoFar shows l rest moments) (sym (clocks_on happened i d happening low next))
    (taken_off shows (clocks_of (take i happened)) (clocks_of (happening ∷ [])) left rest moments so_far (ap (λ (x : Happening). clocks_of (x ∷ []) ++ rest) is ∙ same))

-- one clock more shows another moment
pub another_on : (happened : List Happening) (i : ℕ) (d happening : Happening) (shows : Bool) (t : ℕ) (left moments : List ℕ) → i < length happened → happening ≡ slice_index_or happened i d
    → ShowsSoFar shows (clocks_of (take i happened)) left moments → happening ≡ h.Clock t → ((rest : List ℕ) → left ≢ t ∷ rest) → ShowsSoFar false (clocks_of (take (i + 1) happened)) left moments
another_on happened i d happening shows t left moments low next so_far is another =
    subst (λ l. ShowsSoFar false l left moments) (sym (clocks_on happened i d happening low next))
    (not_taken_off shows (clocks_of (take i happened)) (clocks_of (happening ∷ [])) left moments so_far
    (λ later same. another later (same ∙ ap (λ (x : Happening). clocks_of (x ∷ []) ++ later) is)))

-- where the clocks so far do not show the first moments, all clocks do not show all moments
pub not_shown : (happened : List Happening) (i : ℕ) (shows : Bool) (left moments : List ℕ) → length happened ≤ i → shows ≡ false → ShowsSoFar shows (clocks_of (take i happened)) left moments → clocks_of happened ≢ moments
not_shown happened i true left moments whole not so_far same = absurd (false≢true (sym not))
not_shown happened i false left moments whole not other same =
    other [] (append-nil (clocks_of (take i happened)) ∙ (ap clocks_of (take_all i happened whole) ∙ same))

-- one happening more is counted
pub event_on : (happened : List Happening) (i : ℕ) (d happening : Happening) (count : ℕ) (b : Bool) → i < length happened → happening ≡ slice_index_or happened i d → count ≡ event_count (take i happened) → is_taken happening ≡ b
    → count + cond b 1 0 ≡ event_count (take (i + 1) happened)
event_on happened i d happening count b low next so_far is =
    subst (λ x. count + cond x 1 0 ≡ event_count (take (i + 1) happened)) (sym (ap is_taken next) ∙ is)
    (ap (λ n. n + cond (is_taken (slice_index_or happened i d)) 1 0) so_far ∙ sym (how_many-more is_taken happened i d low))

-- one happening more is so, or not
pub all_on : (P : Happening → Type 0) (happened : List Happening) (i : ℕ) (d happening : Happening) (so_far now : Bool) → i < length happened → happening ≡ slice_index_or happened i d
    → AllSoFar P so_far (take i happened) happened → (IsTrue now ↔ P happening) → AllSoFar P (so_far && now) (take (i + 1) happened) happened
all_on P happened i d happening true true low next here is = All-more P happened i d low here (subst P next (is.0 refl))
all_on P happened i d happening true false low next here is = λ all. false≢true (is.1 (subst P (sym next) (all i d low)))
all_on P happened i d happening false now low next not is = not

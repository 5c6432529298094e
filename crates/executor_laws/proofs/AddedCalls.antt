-- One call more behind others: their order, the terms and the numbers of their tasks.
use Rattle.std.proofs.Common.{◌≡◌, ℕ, ◌+◌, ◌<◌, ◌≤◌, ◌==◌, zero, suc, Bool, true, false, cond, List, [], ◌∷◌, ◌++◌, length, Some, None, refl, sym, ap, ◌∙◌, arith, subst}
use Rattle.std.specs.Prelude.{slice_get}
use Rattle.std.specs.List.{filter, range_with_len}
use Rattle.std.proofs.lemmas.Bool.{false≢true, eqb-true, eq-eqb, false_from_ne_true}
use Rattle.queue_code.specs.declared.call.CodeCall.{CodeCall}
use Rattle.queue_code.specs.declared.call.CodeCall.TheVariants as c
use Rattle.queue_code.specs.Calls.{Planned, IsOrderlyFrom, IsOrderlyCall, count_after, submits_task, task_count, numbers, how_many, Terms, terms_of, terms_in}
use Rattle.executor_model.specs.View.{View, earlier, is_enabled, first_enabled}

-- ---- the order

pub counted : (count moment : ℕ) (call : CodeCall) (calls : List Planned) → count_after count call + task_count calls ≡ count + task_count ((moment, call) ∷ calls)
counted count moment (c.Submit task timing delay) calls = omega arith
counted count moment (c.Illegal task) calls = omega arith
counted count moment (c.Cancel task) calls = refl
counted count moment (c.SetPolicy which value) calls = refl
counted count moment c.Shutdown calls = refl
counted count moment c.ShutdownNow calls = refl
counted count moment c.Ask calls = refl

-- calls in order with one more behind them are in order without it, and it is in order behind them
pub split_orderly : (count moment : ℕ) (calls : List Planned) (p : Planned) → IsOrderlyFrom count moment (calls ++ p ∷ []) →
    IsOrderlyFrom count moment calls × IsOrderlyCall (count + task_count calls) p.1
split_orderly count moment [] p o = let same : count ≡ count + 0 = omega arith in (tt, subst (λ n. IsOrderlyCall n p.1) same o.2)
split_orderly count moment (q ∷ calls) p o =
    let rest = split_orderly (count_after count q.1) q.0 calls p o.3 in
    ((o.0, o.1, o.2, rest.0), subst (λ n. IsOrderlyCall n p.1) (counted count q.0 q.1 calls) rest.1)

-- a number below another is not it
pub not_it : (n k : ℕ) → k < n → (k == n) ≡ false
not_it n k l = false_from_ne_true (k == n) (λ e. absurd (omega (arith, l, eqb-true k n e)))

-- ---- the calls

pub same_call : (calls : List Planned) (p : Planned) (n : ℕ) → n < length calls → slice_get (calls ++ p ∷ []) n ≡ slice_get calls n
same_call [] p n l = absurd (omega (arith, l))
same_call (x ∷ calls) p zero l = refl
same_call (x ∷ calls) p (suc n) l = same_call calls p n (omega (arith, l))

-- ---- the terms

last_terms : (n k moment : ℕ) (call : CodeCall) (rest : Terms) → IsOrderlyCall n call → (k == n) ≡ false → terms_in k moment call rest ≡ rest
last_terms n k moment (c.Submit task timing delay) rest o apart =
    let other : (task == k) ≡ false = false_from_ne_true (task == k) (λ e. absurd (false≢true (sym apart ∙ eq-eqb k n (sym (eqb-true task k e) ∙ o.0)))) in
    ap (λ b. cond b (record { timing = timing; first = moment + delay }) rest) other
last_terms n k moment (c.Illegal task) rest o apart = refl
last_terms n k moment call rest o apart = refl

-- the terms of each other task stay
pub same_terms : (n : ℕ) (calls : List Planned) (p : Planned) (k : ℕ) → IsOrderlyCall n p.1 → (k == n) ≡ false → terms_of (calls ++ p ∷ []) k ≡ terms_of calls k
same_terms n [] p k o apart = last_terms n k p.0 p.1 (terms_of [] k) o apart
same_terms n (x ∷ calls) p k o apart = ap (terms_in k x.0 x.1) (same_terms n calls p k o apart)

-- ---- the numbers

range_more : (a n : ℕ) → range_with_len a (suc n) ≡ range_with_len a n ++ (a + n) ∷ []
range_more a zero = ap (λ m. m ∷ []) (omega arith)
range_more a (suc n) = let shifted : a + 1 + n ≡ a + suc n = omega arith in ap (λ l. a ∷ l) (range_more (a + 1) n ∙ ap (λ m. range_with_len (a + 1) n ++ m ∷ []) shifted)

pub task_one : (calls : List Planned) (p : Planned) → task_count (calls ++ p ∷ []) ≡ cond (submits_task p.1) (1 + task_count calls) (task_count calls)
task_one [] p = refl
task_one (x ∷ calls) p = by (submits_task x.1) (submits_task p.1) (task_one calls p)
  where
    by : (b d : Bool) → task_count (calls ++ p ∷ []) ≡ cond d (1 + task_count calls) (task_count calls) →
        cond b (1 + task_count (calls ++ p ∷ [])) (task_count (calls ++ p ∷ [])) ≡ cond d (1 + cond b (1 + task_count calls) (task_count calls)) (cond b (1 + task_count calls) (task_count calls))
    by true true q = ap (λ m. 1 + m) q
    by true false q = ap (λ m. 1 + m) q
    by false true q = q
    by false false q = q

-- there are as many tasks, or one more
pub task_grows : (calls : List Planned) (p : Planned) → task_count calls ≤ task_count (calls ++ p ∷ [])
task_grows calls p = let more = task_one calls p in by (submits_task p.1) more
  where
    by : (b : Bool) → task_count (calls ++ p ∷ []) ≡ cond b (1 + task_count calls) (task_count calls) → task_count calls ≤ task_count (calls ++ p ∷ [])
    by true q = omega (arith, q)
    by false q = omega (arith, q)

-- what does not see the next number behind others is the same of the numbers of the longer calls
pub same_of_numbers : {X : Type 0} (F : List ℕ → X) (calls : List Planned) (p : Planned) → ((ks : List ℕ) → F (ks ++ task_count calls ∷ []) ≡ F ks) → F (numbers (calls ++ p ∷ [])) ≡ F (numbers calls)
same_of_numbers F calls p last = ap (λ m. F (range_with_len 0 m)) (task_one calls p) ∙ by (submits_task p.1)
  where
    by : (b : Bool) → F (range_with_len 0 (cond b (1 + task_count calls) (task_count calls))) ≡ F (range_with_len 0 (task_count calls))
    by true = let same : 0 + task_count calls ≡ task_count calls = omega arith in let one : 1 + task_count calls ≡ suc (task_count calls) = omega arith in ap (λ m. F (range_with_len 0 m)) one ∙ (ap F (range_more 0 (task_count calls) ∙ ap (λ m. range_with_len 0 (task_count calls) ++ m ∷ []) same) ∙ last (range_with_len 0 (task_count calls)))
    by false = refl

pub last_filtered : (test : ℕ → Bool) (n : ℕ) → test n ≡ false → (ks : List ℕ) → filter test (ks ++ n ∷ []) ≡ filter test ks
last_filtered test n q [] = ap (λ b. cond b (n ∷ []) []) q
last_filtered test n q (k ∷ ks) = ap (λ l. cond (test k) (k ∷ l) l) (last_filtered test n q ks)

pub last_counted : (test : ℕ → Bool) (n : ℕ) → test n ≡ false → (ks : List ℕ) → how_many test (ks ++ n ∷ []) ≡ how_many test ks
last_counted test n q [] = ap (λ b. cond b 1 0) q
last_counted test n q (k ∷ ks) = ap (λ m. cond (test k) (1 + m) m) (last_counted test n q ks)

pub last_not_first : (v : View) (n : ℕ) → is_enabled v n ≡ false → (ks : List ℕ) → first_enabled v (ks ++ n ∷ []) ≡ first_enabled v ks
last_not_first v n q [] = ap (λ b. cond b (Some n) None) q
last_not_first v n q (k ∷ ks) = by (is_enabled v k) (last_not_first v n q ks)
  where
    by : (b : Bool) → first_enabled v (ks ++ n ∷ []) ≡ first_enabled v ks → cond b (Some (earlier v k (first_enabled v (ks ++ n ∷ [])))) (first_enabled v (ks ++ n ∷ [])) ≡ cond b (Some (earlier v k (first_enabled v ks))) (first_enabled v ks)
    by true q = ap (λ o. Some (earlier v k o)) q
    by false q = q

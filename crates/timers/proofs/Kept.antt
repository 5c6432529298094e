-- What is kept of each task by its slot, through the calls.
use Rattle.std.proofs.Common.{◌≡◌, ℕ, ◌+◌, ◌<◌, ◌⊎◌, ◌==◌, inl, inr, List, [], ◌∷◌, ◌++◌, length, Option, Some, None, true, false, refl, sym, ap, ◌∙◌, arith, subst}
use Rattle.std.specs.Prelude.{◌-◌, ◌*◌, ◌&&◌, Result, Ok, Err, OnOk, OnErr, replicate, slice_index_or, slice_set}
use Rattle.std.specs.List.{All}
use Rattle.std.specs.Option.{option_map_or}
use Rattle.std.proofs.lemmas.Bool.{false≢true, eqb-true, and_parts}
use Rattle.std.proofs.lemmas.List.{length-append, get_or_append_left, get_or-set_same, get_or-set_other}
use Rattle.std.proofs.lemmas.List.Elements.{All-nil, All-cons, All-head, All-tail}
use Rattle.std.proofs.lemmas.Option.{none-some, same_Some}
use Rattle.std.proofs.Math.Seq.{get_or-append_seam}
use Rattle.task_table.specs.declared.seat.Seat.{Seat}
use Rattle.task_table.specs.declared.seat.TaskRef.{TaskRef}
use Rattle.task_table.specs.Seats.{slot_of, task_in, waits}
use Rattle.task_table.specs.Tables.{TableView}
use Rattle.task_table.proofs.Written.{slot_within}
use Rattle.sched_time.specs.declared.timing.Timing.{Timing}
use Rattle.live_core.specs.declared.answers.Submitted.{Submitted}
use Rattle.live_core.specs.declared.answers.Submitted.TheVariants as su
use Rattle.live_core.specs.Lives.{LiveView, Stays, StaysQuiet}
use Rattle.live_core.specs.Said as said
use Rattle.live_core.specs.Said.{IsSeated, number_of, is_there, is_waiting_there}
use Rattle.live_core.specs.Shutting.{AreGone, IsGone}
use Rattle.timers.specs.Timers.{TimersView, WereGiven, GivesNone, Gives, HasItsOwn, WasGivenWith, data_in, given_with}
use Rattle.timers.specs.Calls.{Shows, IsPollError}
use Rattle.timers.specs.declared.error.PollError.{PollError}
use Rattle.timers.specs.declared.error.PollError.TheVariants as pe
use Rattle.timers.specs.own.Formed.{IsKept}
use Rattle.timers.specs.own.Rooms.{seen, stored, Grows, HasPlace, IsReady, MakesRoom}
use Rattle.timers.proofs.Roomy.{slot_grown, data_grown, growing, same_size}

-- ---- where no number is given out

-- the name of a task in a slot
abbrev named : Seat → ℕ → TaskRef
named x slot = record { number = x.number; slot = slot }

-- each task in a slot has its own still
held_still : (m new : LiveView) (kept given : List ℕ) → Stays m new m.count → WereGiven (seen m kept) given
    → (slot : ℕ) (x : Seat) → slot_of new.table.slots slot ≡ Some x → HasItsOwn (seen new kept) given (named x slot)
held_still m new kept given s w slot x there =
    let low = s.given slot x there in
    let y = s.slots slot x there (omega (arith, low, s.count)) in
    (omega (arith, low, s.count, w.count), (w.held slot y.0 y.1).1 ∙ ap (given_with given) y.2)

-- nothing changes
kept_same : (m new : LiveView) (kept : List ℕ) → new ≡ m → GivesNone (seen m kept) (seen new kept)
kept_same m new kept e given w = subst (λ (v : LiveView). WereGiven (seen v kept) given) (sym e) w

-- no task is ended
pub kept_quiet : (m new : LiveView) (kept : List ℕ) → StaysQuiet m new m.count → GivesNone (seen m kept) (seen new kept)
kept_quiet m new kept q given w = record {
  count = w.count ∙ sym q.stays.count;
  held = held_still m new kept given q.stays w;
  ended = subst (All (HasItsOwn (seen new kept) given)) (sym q.ended) (All-nil (HasItsOwn (seen new kept) given));
}

-- the tasks that are ended were in their slots
pub kept_swept : (m new : LiveView) (kept : List ℕ) → Stays m new m.count → AreGone m.table new.table new.ended → GivesNone (seen m kept) (seen new kept)
kept_swept m new kept s gone given w = record {
  count = w.count ∙ sym s.count;
  held = held_still m new kept given s w;
  ended = each new.ended gone.each;
}
  where
    each : (tasks : List TaskRef) → All (IsGone m.table new.table) tasks → All (HasItsOwn (seen new kept) given) tasks
    each [] all = All-nil (HasItsOwn (seen new kept) given)
    each (t ∷ tasks) all =
        let first = All-head (IsGone m.table new.table) t tasks all in
        let own = w.held t.slot first.seat first.there in
        All-cons (HasItsOwn (seen new kept) given) t tasks (subst (λ (n : ℕ). n < length given) first.named own.0, own.1 ∙ ap (given_with given) first.named)
        (each tasks (All-tail (IsGone m.table new.table) t tasks all))

-- the same of a call that may be refused
pub swept_or_same : {T E : Type 0} (r : Result T E) (m new : LiveView) (kept : List ℕ) → OnOk r (Stays m new m.count) → OnOk r (AreGone m.table new.table new.ended) → OnErr r (new ≡ m) → GivesNone (seen m kept) (seen new kept)
swept_or_same (Ok t) m new kept s gone same = kept_swept m new kept s gone
swept_or_same (Err e) m new kept s gone same = kept_same m new kept same

pub quiet_or_same : {T E : Type 0} (r : Result T E) (m new : LiveView) (kept : List ℕ) → OnOk r (StaysQuiet m new m.count) → OnErr r (new ≡ m) → GivesNone (seen m kept) (seen new kept)
quiet_or_same (Ok t) m new kept q same = kept_quiet m new kept q
quiet_or_same (Err e) m new kept q same = kept_same m new kept same

-- ---- where the clock shows a moment

pub kept_shown : (m new : LiveView) (kept : List ℕ) (now : ℕ) → Shows m new now → GivesNone (seen m kept) (seen new kept)
kept_shown m new kept now s given w = record {
  count = w.count ∙ sym s.count;
  held = λ slot x there. w.held slot x (ap (λ (slots : List (Option Seat)). slot_of slots slot) (sym s.slots) ∙ there);
  ended = subst (All (HasItsOwn (seen new kept) given)) (sym s.ended) (All-nil (HasItsOwn (seen new kept) given));
}

-- a poll begins no run
pub kept_unpolled : (m new : LiveView) (kept : List ℕ) (now worker : ℕ) (error : PollError) → IsPollError m new now worker error → GivesNone (seen m kept) (seen new kept)
kept_unpolled m new kept now worker pe.NoWorker q = kept_same m new kept q.1
kept_unpolled m new kept now worker pe.Busy q = kept_same m new kept q.1
kept_unpolled m new kept now worker pe.TooFar q = kept_same m new kept q.2
kept_unpolled m new kept now worker pe.Full q = kept_shown m new kept now q.1

-- ---- where there are more slots

pub kept_grown : (m : LiveView) (kept : List ℕ) (slots more : ℕ) → GivesNone (seen m kept) (seen (growing m slots) (kept ++ replicate more 0))
kept_grown m kept slots more given w = record {
  count = w.count;
  held = λ slot x there. let own = w.held slot x (sym (slot_grown m.table.slots (slots - length m.table.slots) slot) ∙ there) in (own.0, data_grown kept more slot ∙ own.1);
  ended = each m.ended w.ended;
}
  where
    new : TimersView
    new = seen (growing m slots) (kept ++ replicate more 0)

    each : (tasks : List TaskRef) → All (HasItsOwn (seen m kept) given) tasks → All (HasItsOwn new given) tasks
    each [] all = All-nil (HasItsOwn new given)
    each (t ∷ tasks) all =
        let own = All-head (HasItsOwn (seen m kept) given) t tasks all in
        All-cons (HasItsOwn new given) t tasks (own.0, data_grown kept more t.slot ∙ own.1)
        (each tasks (All-tail (HasItsOwn (seen m kept) given) t tasks all))

grown_by : (old new : TimersView) (slots : ℕ) → Grows old new slots → GivesNone old new
grown_by old new n grows given w =
    let more = grows.user_data.0 in
    let is : new ≡ seen (growing old.live n) (old.user_data ++ replicate more 0) =
    ap (λ (v : LiveView). seen v new.user_data) grows.live ∙ ap (λ (d : List ℕ). seen (growing old.live n) d) grows.user_data.1
    in
    subst (λ (v : TimersView). WereGiven v given) (sym is) (kept_grown old.live old.user_data n more given w)

pub kept_roomy : (old new : TimersView) → MakesRoom old new → GivesNone old new
kept_roomy old new (inl e) given w = subst (λ (v : TimersView). WereGiven v given) (sym e) w
kept_roomy old new (inr room) given w = grown_by old new room.2.slots room.2.grows given w

pub grown_or_same : {T E : Type 0} (r : Result T E) (old new : TimersView) (slots : ℕ) → OnOk r (Grows old new slots) → OnErr r (new.live ≡ old.live) → OnErr r (new.user_data ≡ old.user_data) → GivesNone old new
grown_or_same (Ok t) old new slots grows live kept given w = grown_by old new slots grows given w
grown_or_same (Err e) old new slots grows live kept given w =
    let is : new ≡ old = ap (λ (v : LiveView). seen v new.user_data) live ∙ ap (λ (d : List ℕ). seen old.live d) kept in
    subst (λ (v : TimersView). WereGiven v given) (sym is) w

-- ---- a submission

-- a task that waits in its slot is there
pub waits_at : (m : TableView) (task : TaskRef) → is_waiting_there m task ≡ true → (y : Seat) × (slot_of m.slots task.slot ≡ Some y) × (y.number ≡ task.number)
waits_at m task is = by (slot_of m.slots task.slot) refl is
  where
    by : (o : Option Seat) → slot_of m.slots task.slot ≡ o → option_map_or (λ x. (x.number == task.number) && waits (task_in x)) o false ≡ true → (y : Seat) × (slot_of m.slots task.slot ≡ Some y) × (y.number ≡ task.number)
    by None there q = absurd (false≢true q)
    by (Some x) there q = (x, there, eqb-true x.number task.number (and_parts (x.number == task.number) (waits (task_in x)) q).0)

-- a task that is in its slot is there
there_at : (m : TableView) (task : TaskRef) → is_there m task ≡ true → (y : Seat) × (slot_of m.slots task.slot ≡ Some y) × (y.number ≡ task.number)
there_at m task is = by (slot_of m.slots task.slot) refl is
  where
    by : (o : Option Seat) → slot_of m.slots task.slot ≡ o → option_map_or (λ x. x.number == task.number) o false ≡ true → (y : Seat) × (slot_of m.slots task.slot ≡ Some y) × (y.number ≡ task.number)
    by None there q = absurd (false≢true q)
    by (Some x) there q = (x, there, eqb-true x.number task.number q)

-- what stands in the slot of a task was given with it
pub given_at : (m : TimersView) (slot number value : ℕ) (x : Seat) → slot_of m.live.table.slots slot ≡ Some x → x.number ≡ number → value ≡ data_in m slot → WasGivenWith m number value
given_at m slot number value x there named is given w =
    let own = w.held slot x there in
    (subst (λ (n : ℕ). n < length given) named own.0, is ∙ (own.1 ∙ ap (given_with given) named))

pub given_there : (m : TimersView) (task : TaskRef) (value : ℕ) → is_there m.live.table task ≡ true → value ≡ data_in m task.slot → WasGivenWith m task.number value
given_there m task value is same = let y = there_at m.live.table task is in given_at m task.slot task.number value y.0 y.1 y.2 same

below_or_at : (a b : ℕ) → a < b + 1 → (a < b) ⊎ (a ≡ b)
below_or_at a b l = grind (arith, l)

-- what is given with a submission stands in the slot of its task, and each other task has its own still
pub kept_new : (m new : LiveView) (kept : List ℕ) (s : Submitted) (value : ℕ) → HasPlace s kept → StaysQuiet m new (m.count + 1) → IsSeated new s → number_of s ≡ m.count
    → Gives (seen m kept) (seen new (stored s value kept)) value
kept_new m new kept s value place q seated own given w = record {
  count = long;
  held = λ slot x there. let low = q.stays.given slot x there in (subst (λ (n : ℕ). x.number < n) (sym long) low, at s place seated own slot x there (below_or_at x.number m.count (omega (arith, low, q.stays.count))));
  ended = subst (All (HasItsOwn (seen new (stored s value kept)) (given ++ value ∷ []))) (sym q.ended) (All-nil (HasItsOwn (seen new (stored s value kept)) (given ++ value ∷ [])));
}
  where
    long : length (given ++ value ∷ []) ≡ new.count
    long = length-append given (value ∷ []) ∙ (ap (λ (n : ℕ). n + 1) w.count ∙ sym q.stays.count)

    -- one that was given out before
    before : (slot : ℕ) (x : Seat) → slot_of new.table.slots slot ≡ Some x → x.number < m.count → slice_index_or kept slot 0 ≡ given_with (given ++ value ∷ []) x.number
    before slot x there low =
        let y = q.stays.slots slot x there low in
        (w.held slot y.0 y.1).1 ∙ (ap (given_with given) y.2 ∙ sym (get_or_append_left given (value ∷ []) 0 x.number (omega (arith, low, w.count))))

    -- the one that is given out now
    last : (n : ℕ) → n ≡ m.count → given_with (given ++ value ∷ []) n ≡ value
    last n is = ap (given_with (given ++ value ∷ [])) (is ∙ sym w.count) ∙ get_or-append_seam given value [] 0

    at : (s : Submitted) → HasPlace s kept → IsSeated new s → number_of s ≡ m.count → (slot : ℕ) (x : Seat) → slot_of new.table.slots slot ≡ Some x
        → (x.number < m.count) ⊎ (x.number ≡ m.count) → slice_index_or (stored s value kept) slot 0 ≡ given_with (given ++ value ∷ []) x.number
    at (su.Rejected number) place seated own slot x there (inl low) = before slot x there low
    at (su.Rejected number) place seated own slot x there (inr e) = absurd (seated slot x there (e ∙ sym own))
    at (su.Accepted task due) place seated own slot x there (inl low) =
        let seat = waits_at new.table task seated in
        get_or-set_other kept task.slot slot value 0
        (λ here. let same = ap (λ (z : Seat). z.number) (same_Some x seat.0 (sym there ∙ (ap (slot_of new.table.slots) here ∙ seat.1))) ∙ (seat.2 ∙ own) in absurd (omega (arith, same, low)))
        ∙ before slot x there low
    at (su.Accepted task due) place seated own slot x there (inr e) =
        let seat = waits_at new.table task seated in
        let same : slot ≡ task.slot = q.stays.apart slot task.slot x seat.0 there seat.1 (e ∙ sym (seat.2 ∙ own)) in
        ap (λ (i : ℕ). slice_index_or (slice_set kept task.slot value) i 0) same ∙ (get_or-set_same kept task.slot value 0 place ∙ sym (last x.number e))

-- there are data for the slot of its task
pub has_place : (m new : LiveView) (kept : List ℕ) (at delay : ℕ) (timing : Timing) (s : Submitted) → length kept ≡ length m.table.slots → IsReady m at delay → said.Submits m new at timing delay s → HasPlace s kept
has_place m new kept at delay timing s long ready p = by s p.seated
  where
    size : length new.table.slots ≡ length m.table.slots
    size = same_size m new at delay timing s ready p

    by : (s : Submitted) → IsSeated new s → HasPlace s kept
    by (su.Accepted task due) seated =
        let seat = waits_at new.table task seated in
        let within = slot_within new.table.slots task.slot seat.0 seat.1 in
        omega (arith, within, size, long)
    by (su.Rejected number) seated = tt

-- room is made, and then the data of a submission are stored
pub kept_after : (old mid : TimersView) (new : LiveView) (kept : List ℕ) (at delay : ℕ) (timing : Timing) (s : Submitted) (value : ℕ) → MakesRoom old mid → length mid.user_data ≡ length mid.live.table.slots → IsReady mid.live at delay
    → said.Submits mid.live new at timing delay s → StaysQuiet mid.live new (mid.live.count + 1) → kept ≡ stored s value mid.user_data → Gives old (seen new kept) value
kept_after old mid new kept at delay timing s value room long ready p stays is given w =
    let place = has_place mid.live new mid.user_data at delay timing s long ready p in
    subst (λ (d : List ℕ). WereGiven (seen new d) (given ++ value ∷ [])) (sym is)
    (kept_new mid.live new mid.user_data s value place stays p.seated p.number given (kept_roomy old mid room given w))

-- ---- what stays true of timers

-- some data were given still
still_kept : (old new : TimersView) → length new.user_data ≡ length new.live.table.slots → GivesNone old new → IsKept old → IsKept new
still_kept old new size gives k = record { size = size; given = k.given; were_given = gives k.given k.were_given }

-- and these too
more_kept : (old new : TimersView) (value : ℕ) → length new.user_data ≡ length new.live.table.slots → Gives old new value → IsKept old → IsKept new
more_kept old new value size gives k = record { size = size; given = k.given ++ value ∷ []; were_given = gives k.given k.were_given }

-- nothing was given yet
pub none_given : (m : TimersView) → m.live.count ≡ 0 → m.live.table.slots ≡ [] → m.live.ended ≡ [] → WereGiven m []
none_given m first slots ended = record {
  count = sym first;
  held = λ slot x there. absurd (none-some x (sym (ap (λ (s : List (Option Seat)). slot_of s slot) slots) ∙ there));
  ended = subst (All (HasItsOwn m [])) (sym ended) (All-nil (HasItsOwn m []));
}

pub none_kept : (m : TimersView) → length m.user_data ≡ length m.live.table.slots → WereGiven m [] → IsKept m
none_kept m size given = record { size = size; given = []; were_given = given }

-- as many slots are left
size_left : (m new : LiveView) (kept : List ℕ) → Stays m new m.count → length kept ≡ length m.table.slots → length kept ≡ length new.table.slots
size_left m new kept s size = size ∙ sym (s.size refl)

-- no call was made
pub same_kept : (m new : LiveView) (kept : List ℕ) → new ≡ m → IsKept (seen m kept) → IsKept (seen new kept)
same_kept m new kept e k = subst (λ (v : LiveView). IsKept (seen v kept)) (sym e) k

-- after a call that may end tasks, or be refused
pub swept_kept : {T E : Type 0} (r : Result T E) (m new : LiveView) (kept : List ℕ) → OnOk r (Stays m new m.count) → OnOk r (AreGone m.table new.table new.ended) → OnErr r (new ≡ m) → IsKept (seen m kept) → IsKept (seen new kept)
swept_kept (Ok t) m new kept s gone same k = still_kept (seen m kept) (seen new kept) (size_left m new kept s k.size) (kept_swept m new kept s gone) k
swept_kept (Err e) m new kept s gone same k = same_kept m new kept same k

-- after a call or an event that ends none
pub calm_kept : (m new : LiveView) (kept : List ℕ) → StaysQuiet m new m.count → IsKept (seen m kept) → IsKept (seen new kept)
calm_kept m new kept q k = still_kept (seen m kept) (seen new kept) (size_left m new kept q.stays k.size) (kept_quiet m new kept q) k

-- the same of one that may be refused
pub quiet_kept : {T E : Type 0} (r : Result T E) (m new : LiveView) (kept : List ℕ) → OnOk r (StaysQuiet m new m.count) → OnErr r (new ≡ m) → IsKept (seen m kept) → IsKept (seen new kept)
quiet_kept (Ok t) m new kept q same k = calm_kept m new kept q k
quiet_kept (Err e) m new kept q same k = same_kept m new kept same k

-- after the clock shows a moment
shown_kept : (m new : LiveView) (kept : List ℕ) (now : ℕ) → Shows m new now → IsKept (seen m kept) → IsKept (seen new kept)
shown_kept m new kept now s k = still_kept (seen m kept) (seen new kept) (k.size ∙ sym (ap length s.slots)) (kept_shown m new kept now s) k

-- after the clock, and an event that ends no task
pub event_kept : (m between new : LiveView) (kept : List ℕ) (now : ℕ) → Shows m between now → Stays between new between.count → new.ended ≡ [] → IsKept (seen m kept) → IsKept (seen new kept)
event_kept m between new kept now shows stays ended k =
    let mid = shown_kept m between kept now shows k in
    calm_kept between new kept (record { stays = stays; ended = ended }) mid

-- after a poll that begins no run
pub unpolled_kept : (m new : LiveView) (kept : List ℕ) (now worker : ℕ) (error : PollError) → IsPollError m new now worker error → IsKept (seen m kept) → IsKept (seen new kept)
unpolled_kept m new kept now worker pe.NoWorker q k = same_kept m new kept q.1 k
unpolled_kept m new kept now worker pe.Busy q k = same_kept m new kept q.1 k
unpolled_kept m new kept now worker pe.TooFar q k = same_kept m new kept q.2 k
unpolled_kept m new kept now worker pe.Full q k = shown_kept m new kept now q.1 k

-- after there are more slots, where memory was granted
pub grown_kept : {T E : Type 0} (r : Result T E) (old new : TimersView) (slots : ℕ) → length new.user_data ≡ length new.live.table.slots → OnOk r (Grows old new slots) → OnErr r (new.live ≡ old.live) → OnErr r (new.user_data ≡ old.user_data) → IsKept old → IsKept new
grown_kept r old new slots size grows live kept k = still_kept old new size (grown_or_same r old new slots grows live kept) k

-- after a submission, or none
pub submitted_kept : {T E : Type 0} (r : Result T E) (old new : TimersView) (value : ℕ) → length new.user_data ≡ length new.live.table.slots → OnOk r (Gives old new value) → OnErr r (new.live ≡ old.live) → OnErr r (new.user_data ≡ old.user_data) → IsKept old → IsKept new
submitted_kept (Ok t) old new value size gives live kept k = more_kept old new value size gives k
submitted_kept (Err e) old new value size gives live kept k =
    let is : new ≡ old = ap (λ (v : LiveView). seen v new.user_data) live ∙ ap (λ (d : List ℕ). seen old.live d) kept in
    subst IsKept (sym is) k

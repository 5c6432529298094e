-- A happening as it stands in memory where it is kept.
-- All of it is this project's rule.
use Rattle.std.specs.Prelude.{◌≡◌, refl}
use Rattle.sched_time.specs.declared.timing.Ending.TheVariants as e
use Rattle.executor_model.specs.declared.types.Happening.{Happening}
use Rattle.executor_model.specs.declared.types.Happening.TheVariants as h
use Rattle.executor_model.specs.declared.kept.Flat.{Flat}
use Rattle.executor_model.specs.declared.kept.Flat.TheVariants as f

-- the happening that is kept
abbrev pub happening_of_flat : Flat → Happening
happening_of_flat f.Call = h.Call
happening_of_flat (f.Clock moment) = h.Clock moment
happening_of_flat (f.Start worker) = h.Start worker
happening_of_flat (f.Done worker value) = h.Finish worker (e.Value value)
happening_of_flat (f.Failed worker code) = h.Finish worker (e.Fault code)
happening_of_flat (f.Cancel task) = h.Cancel task
happening_of_flat f.Purge = h.Purge

-- a happening as it is kept
abbrev pub flat_of : Happening → Flat
flat_of h.Call = f.Call
flat_of (h.Clock moment) = f.Clock moment
flat_of (h.Start worker) = f.Start worker
flat_of (h.Finish worker (e.Value value)) = f.Done worker value
flat_of (h.Finish worker (e.Fault code)) = f.Failed worker code
flat_of (h.Cancel task) = f.Cancel task
flat_of h.Purge = f.Purge

-- what is kept of a kept happening, is just that
pub flat_of_happening : {X : Type 0} (g : Flat → X) (flat : Flat) → g (flat_of (happening_of_flat flat)) ≡ g flat
flat_of_happening g f.Call = refl
flat_of_happening g (f.Clock moment) = refl
flat_of_happening g (f.Start worker) = refl
flat_of_happening g (f.Done worker value) = refl
flat_of_happening g (f.Failed worker code) = refl
flat_of_happening g (f.Cancel task) = refl
flat_of_happening g f.Purge = refl

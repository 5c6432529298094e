-- InMemory: what a run says of bytes in memory.
use Rattle.std.proofs.Common.{◌≡◌, ℕ, List, [], ◌++◌, Some, Result, Ok, Err, ap, ◌∙◌, sym, subst, append-nil}
use Rattle.sched_engine.specs.declared.report.Report.{Report}
use Rattle.sched_engine.specs.declared.report.RunError.{RunError}
use Rattle.sched_engine.specs.declared.report.RunError.TheVariants as x
use Rattle.sched_engine.specs.Inputs.{input_of}
use Rattle.sched_engine.specs.Running.{CountsReader, Ran, RanInMemory}
use Rattle.byte_ends.proofs.Tries.{no_bad}

known : (result : Result Report RunError) (text : List ℕ) (workers limit : ℕ) (input left output : List ℕ) → CountsReader result 0 0 0 0 →
    Ran result text workers limit (Some input) (Some left) (Some []) (Some output) → RanInMemory result text workers limit input output
known (Ok report) text workers limit input left output counts ran =
    let taken = ran.2 in
    record {
      calls = ran.0;
      accepted = ran.1;
      events = taken.events;
      fit = taken.fit;
      past = taken.past;
      trace = taken.trace;
      read = taken.splits.1 ∙ (ap (λ l. input_of taken.events ++ l) taken.splits.2 ∙ append-nil (input_of taken.events));
      written = taken.gives.2;
      taken = sym taken.gives.0;
      lines = sym taken.gives.1;
      within = taken.within;
    }
known (Err x.Read) text workers limit input left output counts ran = absurd (no_bad counts)
known (Err (x.Plan fault)) text workers limit input left output counts ran = (left, ran)
known (Err x.Workers) text workers limit input left output counts ran = (left, ran)
known (Err x.Limit) text workers limit input left output counts ran = (left, ran)
known (Err (x.EventLine n)) text workers limit input left output counts ran = (left, ran)
known (Err x.Full) text workers limit input left output counts ran = (left, ran)
known (Err x.Write) text workers limit input left output counts ran = (left, ran)
known (Err x.Lost) text workers limit input left output counts ran = absurd ran
known (Err x.Memory) text workers limit input left output counts ran = (left, ran)

-- a run from a source whose bytes are known to a sink that has none
pub in_memory : (result : Result Report RunError) (text : List ℕ) (workers limit : ℕ) (input left output first before after : List ℕ) → CountsReader result 0 0 0 0 → first ≡ input → before ≡ [] → output ≡ after →
    Ran result text workers limit (Some first) (Some left) (Some before) (Some after) → RanInMemory result text workers limit input output
in_memory result text workers limit input left output first before after counts is none same ran =
    subst (RanInMemory result text workers limit input) (sym same)
    (known result text workers limit input left after counts
    (subst (λ (l : List ℕ). Ran result text workers limit (Some input) (Some left) (Some l) (Some after)) none (subst (λ (l : List ℕ). Ran result text workers limit (Some l) (Some left) (Some before) (Some after)) is ran)))

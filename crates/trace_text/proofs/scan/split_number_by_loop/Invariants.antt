use Rattle.std.proofs.Common.{take, ◌≡◌, ◌<◌, ◌^◌}
use Rattle.std.specs.Str.Parse.{digits_value, AllDigits}
use Rattle.trace_text.proofs.scan.split_number_by_loop.Given as goal

-- the value is that of the digits so far
abbrev pub invariant-loop-i : goal.invariant-loop-i
invariant-loop-i l = record {
  digits : AllDigits 10 (take l.i l.bytes);
  value : l.value ≡ digits_value 10 (take l.i l.bytes);
  small : l.value < 10 ^ l.i;
}

use Rattle.std.proofs.Common.{refl}
use Rattle.plan_read.proofs.KeyTable.{are_keys}
use Rattle.plan_read.proofs.keys.all_keys.Goals as goal

pub returns : goal.returns
returns c =
    are_keys _ (record { top = refl; header = refl; calls = record { schedule = refl; execute = refl; rate = refl; fixed = refl; cancel = refl; policy = refl; shutdown = refl; shutdown_now = refl; ask = refl } }) (record { top = refl; header = refl; calls = record { schedule = refl; execute = refl; rate = refl; fixed = refl; cancel = refl; policy = refl; shutdown = refl; shutdown_now = refl; ask = refl } })

use Rattle.worker_pool.specs.own.Seen.{seen}
use Rattle.worker_pool.proofs.pool.shift.Shift.hold.Goals as goal

pub returns-clause-holds : goal.returns-clause-holds
returns-clause-holds g c =
    let did = c.next.ensures.decides in
    record { brought = seen c.bring.new.self; brings = c.bring.ensures.brings; count = did.0; last = did.1; nothing = did.2; decides = did.3 }

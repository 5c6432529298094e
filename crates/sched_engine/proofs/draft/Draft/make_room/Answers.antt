use Rattle.byte_ends.proofs.Tries.{no_try}
use Rattle.sched_engine.proofs.draft.Draft.make_room.Goals as goal

pub returns-then-has_room-clause-counts : goal.returns-then-has_room-clause-counts
returns-then-has_room-clause-counts g c = no_try (g.W.Sink.failed c.args.writer.now) (g.W.Sink.fruitless c.args.writer.now)

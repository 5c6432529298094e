use Rattle.pool_engine.proofs.Fits
use Rattle.pool_engine.proofs.laws.pool_runs_conform.Goals as goal

pub returns : goal.returns
returns c = Fits.pool_runs_conform

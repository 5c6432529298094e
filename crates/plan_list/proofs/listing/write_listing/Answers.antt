use Rattle.std.proofs.Common.{◌≡◌, Result, Err, subst, rules}
use Rattle.plan_list.specs.declared.error.ListingError.{ListingError}
use Rattle.plan_list.specs.declared.error.ListingError.TheVariants as l
use Rattle.plan_list.specs.ListingTexts.{CountsListing}
use Rattle.byte_ends.proofs.Tries.{no_call}
use Rattle.plan_list.proofs.listing.write_listing.Goals as goal

pub returns-in_err-text-clause-write : goal.returns-in_err-text-clause-write
returns-in_err-text-clause-write g c =
    let sink = c.args.writer.now in
    let failed = g.W.Sink.failed sink in
    let fruitless = g.W.Sink.fruitless sink in
    let e = c.in_err-text.field-0.0 in
    let fault : Result (Unit {0}) ListingError = Err (l.Code e) in
    let told : fault ≡ c.from_residual.result = search rules in
    subst (λ (r : Result (Unit {0}) ListingError). CountsListing r failed fruitless failed fruitless) told (no_call failed fruitless)

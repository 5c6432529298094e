-- There is room, the call is made, and the data are stored.
use Rattle.timers.specs.own.Rooms.{seen}
use Rattle.timers.proofs.Roomy.{ready_of, stays_after, submits_after}
use Rattle.timers.proofs.Kept.{kept_after}
use Rattle.timers.proofs.submitting.submit.Goals as goal

pub returns-clause-made : goal.returns-clause-made
returns-clause-made g c =
    let old = seen c.args.executor.now c.args.user_data.now.items in
    let mid = seen c.make_place.new.executor c.make_place.new.user_data.items in
    let made = c.in_ok-submitted.ensures.made in
    let ready = ready_of old mid c.make_call.new.executor c.args.at c.args.delay c.args.timing c.in_ok-submitted.submitted c.in_ok-make_place.ensures.place made in
    submits_after old mid c.make_call.new.executor c.args.at c.args.delay c.args.timing c.in_ok-submitted.submitted ready.0 ready.1 made

pub returns-clause-gives : goal.returns-clause-gives
returns-clause-gives g c =
    let old = seen c.args.executor.now c.args.user_data.now.items in
    let mid = seen c.make_place.new.executor c.make_place.new.user_data.items in
    let made = c.in_ok-submitted.ensures.made in
    let ready = ready_of old mid c.make_call.new.executor c.args.at c.args.delay c.args.timing c.in_ok-submitted.submitted c.in_ok-make_place.ensures.place made in
    kept_after old mid c.make_call.new.executor c.store.new.user_data.items c.args.at c.args.delay c.args.timing c.in_ok-submitted.submitted c.args.value
    ready.0 c.make_place.ensures.size ready.1 made c.in_ok-submitted.ensures.stays c.store.ensures

pub returns-clause-stays : goal.returns-clause-stays
returns-clause-stays g c =
    let old = seen c.args.executor.now c.args.user_data.now.items in
    let mid = seen c.make_place.new.executor c.make_place.new.user_data.items in
    let ready = ready_of old mid c.make_call.new.executor c.args.at c.args.delay c.args.timing c.in_ok-submitted.submitted c.in_ok-make_place.ensures.place c.in_ok-submitted.ensures.made in
    stays_after old mid c.make_call.new.executor ready.0 c.in_ok-submitted.ensures.stays

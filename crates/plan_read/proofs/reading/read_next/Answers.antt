use Rattle.std.proofs.Common.{length, refl, subst, Option}
use Rattle.toml.specs.View.{table_view}
use Rattle.plan_read.specs.declared.plans.Call.{Call}
use Rattle.plan_read.specs.declared.sites.Site.{Site}
use Rattle.plan_read.specs.own.Reads.{Reads, found_in}
use Rattle.plan_read.specs.own.Values.{name_at, written_call}
use Rattle.plan_read.specs.own.Walk.{place_fault, call_place, call_tests}
use Rattle.plan_read.specs.Plans.{last_offset}
use Rattle.plan_read.proofs.Naming.{knows-read}
use Rattle.plan_read.proofs.reading.read_next.Goals as goal

pub returns-clause-call : goal.returns-clause-call
returns-clause-call g c =
    let ms = table_view c.args.table.now in
    let block = length c.args.earlier.now in
    let before = c.args.before.now in
    subst (λ (found : Option Site). Reads (λ (k : Call). k) c.read_call.result (place_fault (call_place block (length before)) (call_tests c.args.lists.now.version found block c.args.header (last_offset before) ms)) (written_call c.args.lists.now.version found c.args.header ms)) (c.requires.names (name_at ms)) (rw c.last_offset-last.ensures at c.read_call.ensures.call)

pub returns-clause-names : goal.returns-clause-names
returns-clause-names g c =
    let ms = table_view c.args.table.now in
    knows-read c.args.names.now c.read_call.new.names c.args.earlier.now c.args.header c.args.before.now _ (found_in c.args.names.now (name_at ms)) (call_place (length c.args.earlier.now) (length c.args.before.now)) c.args.lists.now.version c.last_offset-last.result ms c.read_call.result c.requires.names (c.requires.names (name_at ms)) (rw c.requires.sub refl) c.read_call.ensures.names c.read_call.ensures.call

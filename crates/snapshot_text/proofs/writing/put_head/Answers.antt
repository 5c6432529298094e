use Rattle.std.proofs.Common.{◌++◌, ◌∙◌, ap, codes}
use Rattle.snapshot_text.specs.Spelling.{flag_text, head_text, number_text, policies_text, run_text, shut_text, size_text, time_text}
use Rattle.snapshot_text.proofs.Pages.{behind, joined}
use Rattle.snapshot_text.proofs.writing.put_head.Goals as goal

pub returns : goal.returns
returns g c =
    let h = c.args.head.now in
    let page = c.args.page.now in
    let version = c.put.new.self in
    let run = c.put_two.new.self in
    let size = c.put_two-2.new.self in
    let time = c.put_two-3.new.self in
    let numbers = c.put_two-4.new.self in
    let continues = c.put_flag.new.self in
    let executes = c.put_flag-2.new.self in
    let removes = c.put_flag-3.new.self in
    let shut = c.put_flag-4.new.self in
    let stopped = c.put_flag-5.new.self in
    let sizes = c.put_two-2.ensures.text ∙ (λ i. behind run (size_text (c.from.ensures i, c.from-2.ensures i))) in
    let policies = joined numbers continues removes (flag_text (codes "continue ") h.table.policies.continues)
    (flag_text (codes "execute ") h.table.policies.executes ++ flag_text (codes "remove ") h.table.policies.removes) c.put_flag.ensures.text
    (joined continues executes removes (flag_text (codes "execute ") h.table.policies.executes) (flag_text (codes "remove ") h.table.policies.removes) c.put_flag-2.ensures.text c.put_flag-3.ensures.text) in
    let ends = joined removes shut stopped (flag_text (codes "shut ") h.table.shut) (flag_text (codes "stopped ") h.table.stopped) c.put_flag-4.ensures.text c.put_flag-5.ensures.text in
    let last = joined numbers removes stopped (policies_text h.table.policies) (shut_text (h.table.shut, h.table.stopped)) policies ends in
    let from_numbers = joined time numbers stopped (number_text (h.count, h.accepted)) (policies_text h.table.policies ++ shut_text (h.table.shut, h.table.stopped)) c.put_two-4.ensures.text last in
    let from_time = joined size time stopped (time_text (h.table.moment, h.earliest)) _ c.put_two-3.ensures.text from_numbers in
    let from_size = joined run size stopped (size_text (h.table.workers, h.table.slots)) _ sizes from_time in
    let from_run = joined version run stopped (run_text (h.lines, h.written)) _ c.put_two.ensures.text from_size in
    let all = joined page version stopped (codes "sched snapshot 1\n") _ c.put.ensures from_run in
    all ∙ ap (λ l. record { text = l ++ head_text h; sum = page.sum }) c.requires

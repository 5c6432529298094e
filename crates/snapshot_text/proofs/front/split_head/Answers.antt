use Rattle.snapshot_text.proofs.Heads.{head_read, no_head, no_last, no_numbers, no_run, no_size, no_time, past_numbers, past_policies, past_run, past_size, past_time}
use Rattle.snapshot_text.proofs.front.split_head.Goals as goal

pub returns-in_default-split_two : goal.returns-in_default-split_two
returns-in_default-split_two c = no_head c.args.bytes.now c.in-Some.rest.now c.in-Some.ensures (no_run c.in-Some.rest.now c.in_default-split_two.ensures)

pub returns-in_default-split_size : goal.returns-in_default-split_size
returns-in_default-split_size c =
    no_head c.args.bytes.now c.in-Some.rest.now c.in-Some.ensures
    (past_run c.in-Some.rest.now c.in-Some-split_two.rest.now c.in-Some-split_two.progress c.in-Some-split_two.ensures
    (no_size c.in-Some-split_two.rest.now c.in_default-split_size.ensures))

pub returns-in_default-split_two-2 : goal.returns-in_default-split_two-2
returns-in_default-split_two-2 c =
    no_head c.args.bytes.now c.in-Some.rest.now c.in-Some.ensures
    (past_run c.in-Some.rest.now c.in-Some-split_two.rest.now c.in-Some-split_two.progress c.in-Some-split_two.ensures
    (past_size c.in-Some-split_two.rest.now c.in-Some-split_size.rest.now (c.in-Some-split_size.size.0, c.in-Some-split_size.size.1) c.in-Some-split_size.ensures
    (no_time c.in-Some-split_size.rest.now c.in_default-split_two-2.ensures)))

pub returns-in_default-split_two-3 : goal.returns-in_default-split_two-3
returns-in_default-split_two-3 c =
    no_head c.args.bytes.now c.in-Some.rest.now c.in-Some.ensures
    (past_run c.in-Some.rest.now c.in-Some-split_two.rest.now c.in-Some-split_two.progress c.in-Some-split_two.ensures
    (past_size c.in-Some-split_two.rest.now c.in-Some-split_size.rest.now (c.in-Some-split_size.size.0, c.in-Some-split_size.size.1) c.in-Some-split_size.ensures
    (past_time c.in-Some-split_size.rest.now c.in-Some-split_two-2.rest.now c.in-Some-split_two-2.time c.in-Some-split_two-2.ensures
    (no_numbers c.in-Some-split_two-2.rest.now c.in_default-split_two-3.ensures))))

pub returns-in_default-split_policies : goal.returns-in_default-split_policies
returns-in_default-split_policies c =
    no_head c.args.bytes.now c.in-Some.rest.now c.in-Some.ensures
    (past_run c.in-Some.rest.now c.in-Some-split_two.rest.now c.in-Some-split_two.progress c.in-Some-split_two.ensures
    (past_size c.in-Some-split_two.rest.now c.in-Some-split_size.rest.now (c.in-Some-split_size.size.0, c.in-Some-split_size.size.1) c.in-Some-split_size.ensures
    (past_time c.in-Some-split_size.rest.now c.in-Some-split_two-2.rest.now c.in-Some-split_two-2.time c.in-Some-split_two-2.ensures
    (past_numbers c.in-Some-split_two-2.rest.now c.in-Some-split_two-3.rest.now c.in-Some-split_two-3.numbers c.in-Some-split_two-3.ensures
    (no_last c.in-Some-split_two-3.rest.now c.in_default-split_policies.ensures)))))

pub returns-in_default-split_ends : goal.returns-in_default-split_ends
returns-in_default-split_ends c =
    no_head c.args.bytes.now c.in-Some.rest.now c.in-Some.ensures
    (past_run c.in-Some.rest.now c.in-Some-split_two.rest.now c.in-Some-split_two.progress c.in-Some-split_two.ensures
    (past_size c.in-Some-split_two.rest.now c.in-Some-split_size.rest.now (c.in-Some-split_size.size.0, c.in-Some-split_size.size.1) c.in-Some-split_size.ensures
    (past_time c.in-Some-split_size.rest.now c.in-Some-split_two-2.rest.now c.in-Some-split_two-2.time c.in-Some-split_two-2.ensures
    (past_numbers c.in-Some-split_two-2.rest.now c.in-Some-split_two-3.rest.now c.in-Some-split_two-3.numbers c.in-Some-split_two-3.ensures
    (past_policies c.in-Some-split_two-3.rest.now c.in-Some-split_policies.rest.now c.in-Some-split_policies.policies c.in-Some-split_policies.ensures
    c.in_default-split_ends.ensures)))))

pub returns : goal.returns
returns c =
    head_read c.args.bytes.now c.in-Some.rest.now c.in-Some-split_two.rest.now c.in-Some-split_size.rest.now c.in-Some-split_two-2.rest.now c.in-Some-split_two-3.rest.now
    c.in-Some-split_policies.rest.now c.in-Some-split_ends.rest.now _ c.in-Some.ensures c.in-Some-split_two.ensures c.in-Some-split_size.ensures c.in-Some-split_two-2.ensures
    c.in-Some-split_two-3.ensures c.in-Some-split_policies.ensures c.in-Some-split_ends.ensures

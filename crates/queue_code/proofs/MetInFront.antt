-- What the check has met is what stands in front, outside loops and in one, and behind each instruction again.
use Rattle.std.proofs.Common.{◌≡◌, ℕ, zero, suc, ◌+◌, ◌*◌, ◌-◌, ◌≤◌, true, false, cond, eqb, List, [], ◌∷◌, ◌++◌, Option, Some, None, length, refl, sym, ap, subst, ◌∙◌, arith, append_assoc, append-nil, length-append}
use Rattle.queue_code.specs.declared.instr.Instr.{Instr}
use Rattle.queue_code.specs.declared.instr.Instr.TheVariants.{Loop, EndLoop, Halt}
use Rattle.queue_code.specs.declared.progress.OpenLoop.{OpenLoop}
use Rattle.queue_code.specs.declared.progress.Progress.{Progress}
use Rattle.queue_code.specs.Calls.{Planned, task_count}
use Rattle.queue_code.specs.Codes.{call_by, in_front, tasks_by, tasks_in, pass, iterations, body_of, calls_from, calls_of}
use Rattle.queue_code.specs.Checks.{first_call_moment, last_from, last_call_moment, offset_of, makes_call}
use Rattle.queue_code.proofs.Passing.{length_call}
use Rattle.queue_code.proofs.Totals.{AreCalls, tasks_call, tasks_turns, length_turns, tasks_append, tasks_more, calls_more, pass_append, last_append, last_call, first_call, last_turns, if_zero, if_more}
use Rattle.queue_code.proofs.ClosedLoops.{IsClosed, closed_append, closed_call, closed_body, calls_append, one_call}

-- ---- what the check has met is what stands in front

-- outside loops
pub record Outside (front : List Instr) (calls tasks last : ℕ) : Type 0 where
  pub closed : IsClosed false front
  pub calls_is : calls ≡ length (calls_of front)
  pub tasks_is : tasks ≡ task_count (calls_of front)
  pub last_is : last ≡ last_call_moment (calls_of front)
  pub few : calls ≤ 65536

-- in a loop
pub record Inside (front : List Instr) (r : OpenLoop) (calls tasks last : ℕ) : Type 0 where
  pub before : List Instr
  pub body : List Instr
  pub is : front ≡ before ++ Loop r.times r.every ∷ body
  pub closed : IsClosed false before
  pub plain : AreCalls body
  pub least : 1 ≤ r.times
  pub calls_is : calls ≡ length (calls_of before)
  pub start_is : r.start ≡ task_count (calls_of before)
  pub made_is : r.calls ≡ length body
  pub tasks_is : tasks ≡ r.start + tasks_in body
  pub first_is : r.first ≡ first_call_moment (pass 0 r.start r.start body)
  pub last_is : last ≡ last_call_moment (calls_of before ++ pass 0 r.start r.start body)
  pub few : calls ≤ 65536

-- what was met, outside a loop and in one
abbrev pub met : Option OpenLoop → ℕ → ℕ → ℕ → Progress
met r calls tasks last = record { open_loop = r; calls = calls; tasks = tasks; last = last }

-- what is so of what was met
abbrev pub Meets : List Instr → Option OpenLoop → ℕ → ℕ → ℕ → Type 0
Meets front None calls tasks last = Outside front calls tasks last
Meets front (Some r) calls tasks last = Inside front r calls tasks last

-- a loop that begins, behind this many tasks
abbrev pub turn : ℕ → ℕ → ℕ → OpenLoop
turn times every start = record { times = times; every = every; start = start; calls = 0; first = 0 }

-- it, with one call more
abbrev pub turned : OpenLoop → Instr → OpenLoop
turned r i = record r { calls = r.calls + 1; first = cond (eqb r.calls 0) (offset_of i) r.first }

calls_next : (front : List Instr) (i : Instr) → IsClosed false front → makes_call i ≡ true → calls_of (front ++ i ∷ []) ≡ calls_of front ++ in_front (call_by 0 0 (task_count (calls_of front)) i) []
calls_next front i h call =
    let e : 0 + task_count (calls_of front) ≡ task_count (calls_of front) = omega arith in
    calls_append false 0 front (i ∷ []) h
    ∙ ap (λ (n : ℕ). calls_of front ++ calls_from false n (i ∷ [])) e
    ∙ ap (λ (ps : List Planned). calls_of front ++ ps) (one_call (task_count (calls_of front)) i call)

-- a call more makes one call more
pub length_next : (front : List Instr) (i : Instr) → IsClosed false front → makes_call i ≡ true → length (calls_of (front ++ i ∷ [])) ≡ length (calls_of front) + 1
length_next front i h call =
    omega (arith, ap length (calls_next front i h call), length-append (calls_of front) (in_front (call_by 0 0 (task_count (calls_of front)) i) []), length_call i 0 0 (task_count (calls_of front)) [] call)

tasks_next : (front : List Instr) (i : Instr) → IsClosed false front → makes_call i ≡ true → task_count (calls_of (front ++ i ∷ [])) ≡ task_count (calls_of front) + tasks_by i
tasks_next front i h call =
    omega (arith, ap task_count (calls_next front i h call), tasks_append (calls_of front) (in_front (call_by 0 0 (task_count (calls_of front)) i) []), tasks_call 0 0 (task_count (calls_of front)) i [])

last_next : (front : List Instr) (i : Instr) → IsClosed false front → makes_call i ≡ true → last_call_moment (calls_of (front ++ i ∷ [])) ≡ offset_of i
last_next front i h call =
    let n = task_count (calls_of front) in
    let e : 0 + offset_of i ≡ offset_of i = omega arith in
    ap last_call_moment (calls_next front i h call)
    ∙ last_append 0 (calls_of front) (in_front (call_by 0 0 n i) [])
    ∙ last_call (last_call_moment (calls_of front)) 0 0 n i [] call ∙ e

-- a call outside loops
pub call_outside : (front : List Instr) (i : Instr) (calls tasks last : ℕ) → makes_call i ≡ true → Outside front calls tasks last → calls + 1 ≤ 65536 → Outside (front ++ i ∷ []) (calls + 1) (tasks + tasks_by i) (offset_of i)
call_outside front i calls tasks last call o few = record {
  closed = closed_append false front (i ∷ []) o.closed (closed_call i call);
  calls_is = omega (arith, o.calls_is, length_next front i o.closed call);
  tasks_is = omega (arith, o.tasks_is, tasks_next front i o.closed call);
  last_is = sym (last_next front i o.closed call);
  few = few;
}

-- the beginning of a loop
pub loop_begins : (front : List Instr) (times every calls tasks last : ℕ) → Outside front calls tasks last → 1 ≤ times → Inside (front ++ Loop times every ∷ []) (turn times every tasks) calls tasks last
loop_begins front times every calls tasks last o least = record {
  before = front;
  body = [];
  is = refl;
  closed = o.closed;
  plain = tt;
  least = least;
  calls_is = o.calls_is;
  start_is = o.tasks_is;
  made_is = refl;
  tasks_is = omega arith;
  first_is = refl;
  last_is = o.last_is ∙ ap last_call_moment (sym (append-nil (calls_of front)));
  few = o.few;
}

first_more : (r : OpenLoop) (body : List Instr) (i : Instr) → AreCalls body → makes_call i ≡ true → r.calls ≡ length body → r.first ≡ first_call_moment (pass 0 r.start r.start body)
    → cond (eqb r.calls 0) (offset_of i) r.first ≡ first_call_moment (pass 0 r.start r.start (body ++ i ∷ []))
first_more r [] i calls call made first =
    let e : offset_of i ≡ 0 + offset_of i = omega arith in
    if_zero r.calls (offset_of i) r.first made ∙ e ∙ sym (first_call 0 r.start r.start i (pass 0 r.start (r.start + tasks_by i) []) call)
first_more r (j ∷ body) i calls call made first =
    if_more r.calls (offset_of i) r.first (omega (arith, made)) ∙ first
    ∙ first_call 0 r.start r.start j (pass 0 r.start (r.start + tasks_by j) body) calls.0
    ∙ sym (first_call 0 r.start r.start j (pass 0 r.start (r.start + tasks_by j) (body ++ i ∷ [])) calls.0)

last_more : (m start count : ℕ) (body : List Instr) (i : Instr) → makes_call i ≡ true → last_from m (pass 0 start count (body ++ i ∷ [])) ≡ offset_of i
last_more m start count body i call =
    let e : 0 + offset_of i ≡ offset_of i = omega arith in
    ap (last_from m) (pass_append 0 start count body (i ∷ []))
    ∙ last_append m (pass 0 start count body) (pass 0 start (count + tasks_in body) (i ∷ []))
    ∙ last_call (last_from m (pass 0 start count body)) 0 start (count + tasks_in body) i [] call ∙ e

-- a call in a loop
pub call_inside : (front : List Instr) (r : OpenLoop) (i : Instr) (calls tasks last : ℕ) → makes_call i ≡ true → Inside front r calls tasks last → Inside (front ++ i ∷ []) (turned r i) calls (tasks + tasks_by i) (offset_of i)
call_inside front r i calls tasks last call o = record {
  before = o.before;
  body = o.body ++ i ∷ [];
  is = ap (λ (is : List Instr). is ++ i ∷ []) o.is ∙ append_assoc o.before (Loop r.times r.every ∷ o.body) (i ∷ []);
  closed = o.closed;
  plain = calls_more o.body i o.plain call;
  least = o.least;
  calls_is = o.calls_is;
  start_is = o.start_is;
  made_is = omega (arith, o.made_is, length-append o.body (i ∷ []));
  tasks_is = omega (arith, o.tasks_is, tasks_more o.body i);
  first_is = first_more r o.body i o.plain call o.made_is o.first_is;
  last_is = sym (last_append 0 (calls_of o.before) (pass 0 r.start r.start (o.body ++ i ∷ [])) ∙ last_more (last_call_moment (calls_of o.before)) r.start r.start o.body i call);
  few = o.few;
}

-- ---- a whole loop

body_whole : (body : List Instr) → AreCalls body → body_of body ≡ body
body_whole [] calls = refl
body_whole (Loop times every ∷ body) calls = cc
body_whole (EndLoop ∷ body) calls = cc
body_whole (Halt ∷ body) calls = cc
body_whole (i ∷ body) calls = ap (λ (is : List Instr). i ∷ is) (body_whole body calls.1)

body_ended : (body : List Instr) → AreCalls body → body_of (body ++ EndLoop ∷ []) ≡ body
body_ended [] calls = refl
body_ended (Loop times every ∷ body) calls = cc
body_ended (EndLoop ∷ body) calls = cc
body_ended (Halt ∷ body) calls = cc
body_ended (i ∷ body) calls = ap (λ (is : List Instr). i ∷ is) (body_ended body calls.1)

none_behind : (count : ℕ) (body : List Instr) → AreCalls body → calls_from true count body ≡ []
none_behind count [] calls = refl
none_behind count (Loop times every ∷ body) calls = cc
none_behind count (EndLoop ∷ body) calls = cc
none_behind count (Halt ∷ body) calls = cc
none_behind count (i ∷ body) calls = none_behind count body calls.1

none_ended : (count : ℕ) (body : List Instr) → AreCalls body → calls_from true count (body ++ EndLoop ∷ []) ≡ []
none_ended count [] calls = refl
none_ended count (Loop times every ∷ body) calls = cc
none_ended count (EndLoop ∷ body) calls = cc
none_ended count (Halt ∷ body) calls = cc
none_ended count (i ∷ body) calls = none_ended count body calls.1

-- the calls of a loop behind others
loop_calls : (before : List Instr) (times every start : ℕ) (is body : List Instr) → IsClosed false before → start ≡ task_count (calls_of before) → body_of is ≡ body → ((count : ℕ) → calls_from true count is ≡ [])
    → calls_of (before ++ Loop times every ∷ is) ≡ calls_of before ++ iterations times 0 every body start
loop_calls before times every start is body h begin body_is none =
    let e : 0 + task_count (calls_of before) ≡ start = omega (arith, begin) in
    calls_append false 0 before (Loop times every ∷ is) h
    ∙ ap (λ (n : ℕ). calls_of before ++ calls_from false n (Loop times every ∷ is)) e
    ∙ ap (λ (js : List Instr). calls_of before ++ (iterations times 0 every js start ++ calls_from true (start + times * tasks_in js) is)) body_is
    ∙ ap (λ (ps : List Planned). calls_of before ++ (iterations times 0 every body start ++ ps)) (none (start + times * tasks_in body))
    ∙ ap (λ (ps : List Planned). calls_of before ++ ps) (append-nil (iterations times 0 every body start))

-- those so far of the loop that is open
pub open_calls : (front : List Instr) (r : OpenLoop) (calls tasks last : ℕ) (o : Inside front r calls tasks last) → calls_of front ≡ calls_of o.before ++ iterations r.times 0 r.every o.body r.start
open_calls front r calls tasks last o = ap calls_of o.is ∙ loop_calls o.before r.times r.every r.start o.body o.body o.closed o.start_is (body_whole o.body o.plain) (λ n. none_behind n o.body o.plain)

ended_is : (front : List Instr) (r : OpenLoop) (calls tasks last : ℕ) (o : Inside front r calls tasks last) → front ++ EndLoop ∷ [] ≡ o.before ++ Loop r.times r.every ∷ (o.body ++ EndLoop ∷ [])
ended_is front r calls tasks last o = ap (λ (is : List Instr). is ++ EndLoop ∷ []) o.is ∙ append_assoc o.before (Loop r.times r.every ∷ o.body) (EndLoop ∷ [])

ended_calls : (front : List Instr) (r : OpenLoop) (calls tasks last : ℕ) (o : Inside front r calls tasks last) → calls_of (front ++ EndLoop ∷ []) ≡ calls_of o.before ++ iterations r.times 0 r.every o.body r.start
ended_calls front r calls tasks last o =
    ap calls_of (ended_is front r calls tasks last o) ∙ loop_calls o.before r.times r.every r.start (o.body ++ EndLoop ∷ []) o.body o.closed o.start_is (body_ended o.body o.plain) (λ n. none_ended n o.body o.plain)

-- how many they are
pub length_whole : (front : List Instr) (r : OpenLoop) (calls tasks last : ℕ) (o : Inside front r calls tasks last) → length (calls_of o.before ++ iterations r.times 0 r.every o.body r.start) ≡ calls + r.times * r.calls
length_whole front r calls tasks last o =
    let e : r.times * length o.body ≡ r.times * r.calls = ap (λ (n : ℕ). r.times * n) (sym o.made_is) in
    omega (arith, length-append (calls_of o.before) (iterations r.times 0 r.every o.body r.start), length_turns r.times 0 r.every r.start o.body o.plain, e, o.calls_is)

tasks_whole : (front : List Instr) (r : OpenLoop) (calls tasks last : ℕ) (o : Inside front r calls tasks last) → task_count (calls_of o.before ++ iterations r.times 0 r.every o.body r.start) ≡ r.start + r.times * (tasks - r.start)
tasks_whole front r calls tasks last o =
    let turns = iterations r.times 0 r.every o.body r.start in
    let less : tasks - r.start ≡ tasks_in o.body = omega (arith, o.tasks_is) in
    let e : r.times * (tasks - r.start) ≡ r.times * tasks_in o.body = ap (λ (n : ℕ). r.times * n) less in
    omega (arith, tasks_append (calls_of o.before) turns, ap task_count (sym (append-nil turns)), tasks_turns r.times 0 r.every r.start o.body [], e, o.start_is)

last_body : (times every start last : ℕ) (before : List Planned) (body : List Instr) → AreCalls body → 1 ≤ length body → 1 ≤ times → last ≡ last_call_moment (before ++ pass 0 start start body)
    → last_call_moment (before ++ iterations times 0 every body start) ≡ (times - 1) * every + last
last_body times every start last before [] calls some least is = absurd (omega (arith, some))
last_body zero every start last before (i ∷ body) calls some least is = absurd (omega (arith, least))
last_body (suc n) every start last before (i ∷ body) calls some least is =
    let e : 0 + n ≡ suc n - 1 = omega arith in
    last_append 0 before (iterations (suc n) 0 every (i ∷ body) start)
    ∙ last_turns n 0 every start start start (last_call_moment before) (last_call_moment before) i body calls
    ∙ ap (λ (k : ℕ). k * every + last_from (last_call_moment before) (pass 0 start start (i ∷ body))) e
    ∙ ap (λ (k : ℕ). (suc n - 1) * every + k) (sym (last_append 0 before (pass 0 start start (i ∷ body))) ∙ sym is)

-- the end of a loop
pub loop_ends : (front : List Instr) (r : OpenLoop) (calls tasks last : ℕ) → Inside front r calls tasks last → 1 ≤ r.calls → calls + r.times * r.calls ≤ 65536
    → Outside (front ++ EndLoop ∷ []) (calls + r.times * r.calls) (r.start + r.times * (tasks - r.start)) ((r.times - 1) * r.every + last)
loop_ends front r calls tasks last o some few =
    let ended = ended_calls front r calls tasks last o in
    record {
      closed = subst (IsClosed false) (sym (ended_is front r calls tasks last o)) (closed_append false o.before (Loop r.times r.every ∷ (o.body ++ EndLoop ∷ [])) o.closed (closed_body o.body o.plain));
      calls_is = sym (ap length ended ∙ length_whole front r calls tasks last o);
      tasks_is = sym (ap task_count ended ∙ tasks_whole front r calls tasks last o);
      last_is = sym (ap last_call_moment ended ∙ last_body r.times r.every r.start last (calls_of o.before) o.body o.plain (omega (arith, some, o.made_is)) o.least o.last_is);
      few = few;
    }

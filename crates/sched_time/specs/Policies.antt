-- The policies of an executor, and what sets them; their words, as plans, listings and traces write them.
-- Where a definition names a class, its source is the Java SE 17 documentation of that class.
-- Where it names no source, it is this project's rule.
use Rattle.std.specs.Prelude.{ℕ, List, Bool, true, false, codes}
use Rattle.sched_time.specs.declared.policies.Policies.{Policies}
use Rattle.sched_time.specs.declared.policies.Which.{Which}
use Rattle.sched_time.specs.declared.policies.Which.TheVariants as which

-- the word of a policy
abbrev pub policy_text : Which → List ℕ
policy_text which.Continue = codes "continue"
policy_text which.Execute = codes "execute"
policy_text which.Remove = codes "remove"

-- what a policy is set to, in a word
abbrev pub truth_text : Bool → List ℕ
truth_text true = codes "true"
truth_text false = codes "false"

-- the policies before any is set
-- (ScheduledThreadPoolExecutor.getContinueExistingPeriodicTasksAfterShutdownPolicy and getRemoveOnCancelPolicy:
-- by default false; getExecuteExistingDelayedTasksAfterShutdownPolicy: by default true)
abbrev pub default_policies : Policies
default_policies = record { continues = false; executes = true; removes = false }

-- the policies after one is set
abbrev pub set_policy : Which → Bool → Policies → Policies
set_policy which.Continue value policies = record policies { continues = value }
set_policy which.Execute value policies = record policies { executes = value }
set_policy which.Remove value policies = record policies { removes = value }

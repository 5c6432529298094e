-- What holds of every tree and every plan. The functions of `laws` promise it.
use Rattle.std.specs.Prelude.{◌≡◌, ◌⊎◌, ℕ, List, codes}
use Rattle.toml.specs.Data.{Members, string}
use Rattle.plan_read.specs.declared.faults.PlanFault.{PlanFault}
use Rattle.plan_read.specs.declared.plans.Call.{Call}
use Rattle.plan_read.specs.declared.plans.Header.{Header}
use Rattle.plan_read.specs.declared.plans.Op.TheVariants as ops
use Rattle.plan_read.specs.declared.plans.Target.{Target}
use Rattle.plan_read.specs.declared.versions.Version.{Version as PlanVersion}
use Rattle.plan_read.specs.declared.versions.Version.TheVariants.{One, Two}
use Rattle.plan_read.specs.Migrating.{migrated, in_nanoseconds}
use Rattle.plan_read.specs.Plans.{PlanTree, submissions_from, AreDistinct, StandsBefore, IsOrdered}
use Rattle.plan_read.specs.Writes.{Has, TreeWrites, TreeWritesIn, TreeFails, WritesCall}

-- a tree writes a plan or has a fault
abbrev pub WritesOrFails : Type 0
WritesOrFails = (ms : Members) → ((plan : PlanTree) × TreeWrites ms plan) ⊎ ((fault : PlanFault) × TreeFails ms fault)

-- a tree that writes a plan has no fault
abbrev pub NeverBoth : Type 0
NeverBoth = (ms : Members) (plan : PlanTree) (fault : PlanFault) → TreeWrites ms plan → TreeFails ms fault → ⊥

-- a tree writes at most one plan
abbrev pub WritesOne : Type 0
WritesOne = (ms : Members) (plan other : PlanTree) → TreeWrites ms plan → TreeWrites ms other → plan ≡ other

-- a tree has at most one fault
abbrev pub FailsOnce : Type 0
FailsOnce = (ms : Members) (fault other : PlanFault) → TreeFails ms fault → TreeFails ms other → fault ≡ other

-- two submissions of a plan have different names
abbrev pub NamesDiffer : Type 0
NamesDiffer = (ms : Members) (plan : PlanTree) → TreeWrites ms plan → AreDistinct (submissions_from 0 plan)

-- the target of a cancel is a submission that stands before it, has the name that the call gives, and is of the same iteration or of
-- a block that is not repeated
abbrev pub TargetsStandBefore : Type 0
TargetsStandBefore =
    (version : PlanVersion) (earlier : PlanTree) (h : Header) (before : List Call) (ms : Members) (c : Call) (target : Target)
    → WritesCall version earlier h before ms c → c.op ≡ ops.Cancel target
    → (name : List ℕ) × Has ms (codes "name") (string name) × StandsBefore earlier before name target

-- the migrated tree of a tree of version 1 writes the same plan in version 2, but for what its blocks keep of units
abbrev pub MigratedTreesWrite : Type 0
MigratedTreesWrite = (ms : Members) (plan : PlanTree) → TreeWritesIn One ms plan → TreeWritesIn Two (migrated ms) (in_nanoseconds plan)

-- the calls of a plan are in order and within the limits
abbrev pub PlansAreOrdered : Type 0
PlansAreOrdered = (ms : Members) (plan : PlanTree) → TreeWrites ms plan → IsOrdered plan

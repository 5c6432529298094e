-- The versions, shapes and keys of this crate as those by which plans are read.
use Rattle.std.specs.Prelude.{List, map}
use Rattle.plan_read.specs.Keys.{Key as PlanKey}
use Rattle.plan_read.specs.declared.keys.Shape.{Shape as PlanShape}
use Rattle.plan_read.specs.declared.keys.Shape.TheVariants as shapes
use Rattle.plan_read.specs.declared.versions.Version.{Version as PlanVersion}
use Rattle.plan_read.specs.declared.versions.Version.TheVariants as versions
use Rattle.plan_reasons.specs.declared.keys.Key.{Key}
use Rattle.plan_reasons.specs.declared.keys.Shape.{Shape}
use Rattle.plan_reasons.specs.declared.keys.Shape.TheVariants.{Text, Integer, Truth, Policy, Tables}
use Rattle.plan_reasons.specs.declared.versions.Version.{Version}
use Rattle.plan_reasons.specs.declared.versions.Version.TheVariants.{One, Two}

-- a version
abbrev pub plan_version : Version → PlanVersion
plan_version One = versions.One
plan_version Two = versions.Two

-- what the value of a key has to be
abbrev pub plan_shape : Shape → PlanShape
plan_shape Text = shapes.Text
plan_shape Integer = shapes.Integer
plan_shape Truth = shapes.Truth
plan_shape Policy = shapes.Policy
plan_shape Tables = shapes.Tables

-- a key
abbrev pub plan_key : Key → PlanKey
plan_key k = record { name = k.name.now; shape = plan_shape k.shape; required = k.required }

-- some keys
abbrev pub plan_keys : List Key → List PlanKey
plan_keys keys = map plan_key keys

use Rattle.std.proofs.Common.{ap, ap₂, refl, rules, subst, sym, Option, Some, None, List, [], Result, Err, true, false, ◌≡◌, ◌∙◌}
use Rattle.std.specs.Prelude.{IsSome, option_map}
use Rattle.std.proofs.lemmas.Bool.{and_parts, not-true}
use Rattle.std.proofs.lemmas.Option.{none-some, same_Some}
use Rattle.clap.specs.Kinds.{HasKind}
use Rattle.clap.specs.Words.{App, HasMatchesOf, Row, Text, fault_of, found_of, is_simple, is_simple_and_free, rows_of, subcommand_name_of, subcommand_of, subcommand_rows_of}
use Rattle.clap.specs.declared.error.Error.{Error}
use Rattle.clap.specs.declared.parser.matches.ArgMatches.{ArgMatches}
use Rattle.command_line.specs.Commands.{sched_app}
use Rattle.command_line.specs.declared.arguments.Asked.{Asked}
use Rattle.command_line.proofs.KnownCommand.{is_known}
use Rattle.command_line.proofs.arguments.Asked.parse.Goals as goal

-- arguments that were taken have no fault
no_fault : (app : App) (arguments : List Text) → app ≡ sched_app → (is_simple_and_free app ≡ true → fault_of app arguments ≡ []) → fault_of sched_app arguments ≡ []
no_fault app arguments is none = ap (λ (a : App). fault_of a arguments) (sym is) ∙ none (ap is_simple_and_free is ∙ is_known)

-- arguments that were not taken have a fault of this kind
has_fault : (app : App) (arguments : List Text) (error : Error) → app ≡ sched_app → (is_simple_and_free app ≡ true → HasKind (fault_of app arguments) error) → HasKind (fault_of sched_app arguments) error
has_fault app arguments error is has = subst (λ (a : App). HasKind (fault_of a arguments) error) is (has (ap is_simple_and_free is ∙ is_known))

pub returns-in_err-matches-clause-fails : goal.returns-in_err-matches-clause-fails
returns-in_err-matches-clause-fails c =
    let e = c.in_err-matches.field-0.0 in
    let fault : Result Asked Error = Err e in
    let told : fault ≡ c.from_residual-in_err-matches.result = search rules in
    rw (← told) (has_fault _ _ e c.in_ok-command.ensures.app c.in_err-matches.ensures.kinds)

pub returns-in-Some-clause-fails : goal.returns-in-Some-clause-fails
returns-in-Some-clause-fails c = no_fault _ _ c.in_ok-command.ensures.app c.in_ok-matches.ensures.kinds

pub returns-in-Some-subcommand_matches-clause-fails : goal.returns-in-Some-subcommand_matches-clause-fails
returns-in-Some-subcommand_matches-clause-fails c = no_fault _ _ c.in_ok-command.ensures.app c.in_ok-matches.ensures.kinds

pub returns-in-Some-subcommand_matches-2-clause-fails : goal.returns-in-Some-subcommand_matches-2-clause-fails
returns-in-Some-subcommand_matches-2-clause-fails c = no_fault _ _ c.in_ok-command.ensures.app c.in_ok-matches.ensures.kinds

pub returns-in-Some-subcommand_matches-3-clause-fails : goal.returns-in-Some-subcommand_matches-3-clause-fails
returns-in-Some-subcommand_matches-3-clause-fails c = no_fault _ _ c.in_ok-command.ensures.app c.in_ok-matches.ensures.kinds

pub returns-in-Some-subcommand_matches-4-clause-fails : goal.returns-in-Some-subcommand_matches-4-clause-fails
returns-in-Some-subcommand_matches-4-clause-fails c = no_fault _ _ c.in_ok-command.ensures.app c.in_ok-matches.ensures.kinds

pub returns-in-Some-subcommand_matches-5-clause-fails : goal.returns-in-Some-subcommand_matches-5-clause-fails
returns-in-Some-subcommand_matches-5-clause-fails c = no_fault _ _ c.in_ok-command.ensures.app c.in_ok-matches.ensures.kinds

pub returns-in-Some-subcommand_matches-6-clause-fails : goal.returns-in-Some-subcommand_matches-6-clause-fails
returns-in-Some-subcommand_matches-6-clause-fails c = no_fault _ _ c.in_ok-command.ensures.app c.in_ok-matches.ensures.kinds

pub returns-in-Some-subcommand_matches-7-clause-fails : goal.returns-in-Some-subcommand_matches-7-clause-fails
returns-in-Some-subcommand_matches-7-clause-fails c = no_fault _ _ c.in_ok-command.ensures.app c.in_ok-matches.ensures.kinds

pub returns-clause-fails : goal.returns-clause-fails
returns-clause-fails c = no_fault _ _ c.in_ok-command.ensures.app c.in_ok-matches.ensures.kinds

-- false is not true
no_truth : false ≡ true → ⊥
no_truth q = cc

-- what is not there is not found
none_found : {X : Type 0} (r : Option X) → r ≡ None → IsSome r → ⊥
none_found None is found = cc
none_found (Some x) is found = absurd (none-some x (sym is))

-- the name and the rows of a thing
abbrev both : {B : Type 0} (name : B → Text) (rows : B → List Row) → B → Text × List Row
both name rows b = (name b, rows b)

-- what is there has the name and the rows that are read of it
pair_of : {B : Type 0} (there : Option B) (name : B → Text) (rows : B → List Row) (n : Text) (r : List Row)
    → Some n ≡ option_map name there → Some r ≡ option_map (λ (p : Text × List Row). p.1) (option_map (both name rows) there)
    → option_map (both name rows) there ≡ Some (n, r)
pair_of None name rows n r is all = absurd (none-some n (sym is))
pair_of (Some b) name rows n r is all = ap₂ (λ (x : Text) (y : List Row). Some (x, y)) (same_Some (name b) n (sym is)) (same_Some (rows b) r (sym all))

-- the command that the arguments name, and what they hold for it, by what is read of the matches
named : (app : App) (arguments : List Text) (m : ArgMatches) (n : Text) (r : List Row) → app ≡ sched_app → HasMatchesOf app arguments m
    → subcommand_name_of m ≡ Some n → option_map (λ (p : Text × List Row). p.1) (subcommand_rows_of m) ≡ Some r → subcommand_of sched_app arguments ≡ Some (n, r)
named app arguments m n r is matches name rows =
    let simple = (and_parts _ _ is_known).0 in
    let found = (matches (ap is_simple is ∙ simple)).1 ∙ ap (λ (a : App). subcommand_of a arguments) is in
    sym found ∙ pair_of _ _ _ _ _ (sym name) (sym rows)

pub returns-in-Some-clause-asked : goal.returns-in-Some-clause-asked
returns-in-Some-clause-asked c = (
  _,
  named _ _ _ _ _ c.in_ok-command.ensures.app c.in_ok-matches.ensures.matches (c.in-Some.ensures.found.0 refl) c.in-Some.ensures.rows,
  c.of_matches-plan.ensures,
)

pub returns-in-Some-subcommand_matches-clause-asked : goal.returns-in-Some-subcommand_matches-clause-asked
returns-in-Some-subcommand_matches-clause-asked c = (
  _,
  named _ _ _ _ _ c.in_ok-command.ensures.app c.in_ok-matches.ensures.matches (c.in-Some-subcommand_matches.ensures.found.0 refl) c.in-Some-subcommand_matches.ensures.rows,
  c.of_matches-plan-in-Some-subcommand_matches.ensures,
)

pub returns-in-Some-subcommand_matches-2-clause-asked : goal.returns-in-Some-subcommand_matches-2-clause-asked
returns-in-Some-subcommand_matches-2-clause-asked c = (
  _,
  named _ _ _ _ _ c.in_ok-command.ensures.app c.in_ok-matches.ensures.matches (c.in-Some-subcommand_matches-2.ensures.found.0 refl) c.in-Some-subcommand_matches-2.ensures.rows,
  c.of_matches-check.ensures,
)

pub returns-in-Some-subcommand_matches-3-clause-asked : goal.returns-in-Some-subcommand_matches-3-clause-asked
returns-in-Some-subcommand_matches-3-clause-asked c = (
  _,
  named _ _ _ _ _ c.in_ok-command.ensures.app c.in_ok-matches.ensures.matches (c.in-Some-subcommand_matches-3.ensures.found.0 refl) c.in-Some-subcommand_matches-3.ensures.rows,
  c.of_matches.ensures,
)

pub returns-in-Some-subcommand_matches-4-clause-asked : goal.returns-in-Some-subcommand_matches-4-clause-asked
returns-in-Some-subcommand_matches-4-clause-asked c = (
  _,
  named _ _ _ _ _ c.in_ok-command.ensures.app c.in_ok-matches.ensures.matches (c.in-Some-subcommand_matches-4.ensures.found.0 refl) c.in-Some-subcommand_matches-4.ensures.rows,
  c.of_matches-plan-in-Some-subcommand_matches-4.ensures,
)

pub returns-in-Some-subcommand_matches-5-clause-asked : goal.returns-in-Some-subcommand_matches-5-clause-asked
returns-in-Some-subcommand_matches-5-clause-asked c = (
  _,
  named _ _ _ _ _ c.in_ok-command.ensures.app c.in_ok-matches.ensures.matches (c.in-Some-subcommand_matches-5.ensures.found.0 refl) c.in-Some-subcommand_matches-5.ensures.rows,
  c.of_matches-draw.ensures,
)

pub returns-in-Some-subcommand_matches-6-clause-asked : goal.returns-in-Some-subcommand_matches-6-clause-asked
returns-in-Some-subcommand_matches-6-clause-asked c = (
  _,
  named _ _ _ _ _ c.in_ok-command.ensures.app c.in_ok-matches.ensures.matches (c.in-Some-subcommand_matches-6.ensures.found.0 refl) c.in-Some-subcommand_matches-6.ensures.rows,
  c.of_matches-live.ensures,
)

pub returns-in-Some-subcommand_matches-7-clause-asked : goal.returns-in-Some-subcommand_matches-7-clause-asked
returns-in-Some-subcommand_matches-7-clause-asked c = (
  _,
  named _ _ _ _ _ c.in_ok-command.ensures.app c.in_ok-matches.ensures.matches (c.in-Some-subcommand_matches-7.ensures.found.0 refl) c.in-Some-subcommand_matches-7.ensures.rows,
  c.of_matches-in-Some-subcommand_matches-7.ensures,
)

pub returns-clause-asked : goal.returns-clause-asked
returns-clause-asked c =
    let name = c.in-Some-subcommand.ensures.name in (
      c.in-Some-subcommand.field-0-0.now,
      rows_of (found_of c.in-Some-subcommand.run'.now),
      named _ _ _ _ _ c.in_ok-command.ensures.app c.in_ok-matches.ensures.matches (sym name) (sym c.in-Some-subcommand.ensures.rows),
      λ q. absurd (no_truth (c.in_default.ensures.found.1 (sym name ∙ ap Some q))),
      λ q. none_found _ c.in_default-subcommand_matches.is (c.subcommand_matches-2.ensures.found.1 (sym name ∙ ap Some q)),
      λ q. none_found _ c.in_default-subcommand_matches-2.is (c.subcommand_matches-3.ensures.found.1 (sym name ∙ ap Some q)),
      λ q. none_found _ c.in_default-subcommand_matches-3.is (c.subcommand_matches-4.ensures.found.1 (sym name ∙ ap Some q)),
      λ q. none_found _ c.in_default-subcommand_matches-4.is (c.subcommand_matches-5.ensures.found.1 (sym name ∙ ap Some q)),
      λ q. none_found _ c.in_default-subcommand_matches-5.is (c.subcommand_matches-6.ensures.found.1 (sym name ∙ ap Some q)),
      λ q. none_found _ c.in_default-subcommand_matches-6.is (c.subcommand_matches-7.ensures.found.1 (sym name ∙ ap Some q)),
      λ q. none_found _ c.in_default-subcommand_matches-7.is (c.subcommand_matches-8.ensures.found.1 (sym name ∙ ap Some q)),
      c.of_matches-run.ensures,
    )

-- the command line wants a command, so one was found
pub unreachable-requires : goal.unreachable-requires
unreachable-requires c =
    let app = c.in_ok-command.ensures.app in
    let plain = ap (λ (a : App). a.top.is_plain) app in
    let local = not-true _ (and_parts _ _ (and_parts _ _ (and_parts _ _ plain).1).1).0 in
    let needs = ap (λ (a : App). a.top.subcommand_required) app in
    let parsed = c.in_ok-matches.ensures.parsed in
    let has = (parsed.parsed (parsed.from.globals ∙ local)).checked.subcommand (parsed.from.needs_subcommand ∙ needs) in
    no_truth (c.in-None.ensures.variant ∙ has)

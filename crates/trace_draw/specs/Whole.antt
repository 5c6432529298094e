-- The part of time that lines take. All of it is this project's rule.
use Rattle.std.specs.Prelude.{ℕ, min, max, List, [], ◌∷◌, fold}
use Rattle.executor_model.specs.declared.types.Line.{Line}

-- the least moment of lines, and 0 where there is none
abbrev pub least_moment : List Line → ℕ
least_moment [] = 0
least_moment (first ∷ more) = fold (λ n line. min n line.moment) first.moment more

-- the greatest moment of lines, and 0 where there is none
abbrev pub greatest_moment : List Line → ℕ
greatest_moment [] = 0
greatest_moment (first ∷ more) = fold (λ n line. max n line.moment) first.moment more

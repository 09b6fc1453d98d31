-- Every name that the grammar writes is one of a word. Assumes nothing.
use mathlib.Core.Path.{◌≡◌, refl}
use mathlib.Core.Bool.{true, not}
use mathlib.Core.List.{[], ◌∷◌}
use lib.Dec.{eqb}
use Rattle.nibl.specs.Bytes.{all}
use Rattle.nibl.specs.Words.{number, command}

pub names-known : all (λ n. not (eqb (number n) 0)) ("STAT" ∷ "TOP" ∷ "(" ∷ ")" ∷ "@" ∷ "NOT" ∷ "MOD" ∷ "," ∷ "*" ∷ "/" ∷ "AND" ∷ "+" ∷ "-" ∷ "OR" ∷ "=" ∷ "<" ∷ ">" ∷ "<=" ∷ ">=" ∷ "<>" ∷ "LET" ∷ "$" ∷ "GOTO" ∷ "GO" ∷ "TO" ∷ "GOSUB" ∷ "SUB" ∷ "RETURN" ∷ "PR" ∷ "PRINT" ∷ ";" ∷ "IF" ∷ "THEN" ∷ "DO" ∷ "UNTIL" ∷ "FOR" ∷ "STEP" ∷ "NEXT" ∷ "INPUT" ∷ "REM" ∷ "END" ∷ ":" ∷ []) ≡ true
names-known = refl

pub commands-known : all (λ n. not (eqb (command n) 0)) ("NEW" ∷ "CLEAR" ∷ "LIST" ∷ "RUN" ∷ []) ≡ true
commands-known = refl

-- Text as lines (document 01, "A day's frames"; request K1). A text is a list of ASCII codes, and it comes in pieces.
use Rattle.std.specs.Prelude.{ℕ, Bool, true, false, cond, List, [], ◌∷◌, map, eqb}

-- characters of one line, and whether its newline stands behind them
pub record Part : Type 0 where
  pub text : List ℕ
  pub ended : Bool

abbrev pub part : List ℕ → Bool → Part
part l e = record { text = l; ended = e }

-- a character in front of the first part
abbrev pub in_front : ℕ → List Part → List Part
in_front c [] = part (c ∷ []) false ∷ []
in_front c (p ∷ ps) = part (c ∷ p.text) p.ended ∷ ps

-- a text's parts: its lines, of which the last may not have ended
unfoldable pub parts_of : List ℕ → List Part
parts_of [] = []
parts_of (c ∷ cs) = cond (eqb c 10) (part [] true ∷ parts_of cs) (in_front c (parts_of cs))

-- a text's lines: a newline ends a line, and the last may end without one
unfoldable pub lines_of : List ℕ → List (List ℕ)
lines_of t = map (λ p. p.text) (parts_of t)

-- one part after the other
unfoldable pub each_part : {X : Type 0} → (X → Part → X) → X → List Part → X
each_part step x [] = x
each_part step x (p ∷ ps) = each_part step (step x p) ps

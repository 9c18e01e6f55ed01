use Rattle.std.proofs.Common.{◌≡◌, map, drop}
use denote.Text.{Utf8}
use denote.Shadow.{shadow}
use Rattle.std.specs.List.{concat}
use Rattle.std.specs.Str.{bytes_eq}
use Rattle.iam_match.proofs.principal.is_joined.Given as goal

-- what is left of the text against what is left of the pieces
abbrev pub invariant-loop-piece : goal.invariant-loop-piece
invariant-loop-piece l =
    shadow (Utf8 l.rest)
    × (bytes_eq l.text (concat (map (λ p. p.now) l.pieces)) ≡ bytes_eq l.rest (concat (map (λ p. p.now) (drop l.piece-index l.pieces))))

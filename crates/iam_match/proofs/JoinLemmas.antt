-- A text and the pieces that it is joined of.
use Rattle.std.proofs.Common.{◌≡◌, ◌≢◌, ℕ, ◌+◌, ◌<◌, List, [], ◌∷◌, ◌++◌, Bool, true, false, ◌&&◌, map, drop, length, get_or, refl, sym, ap, ◌∙◌, Bor, eq-eqb, add-one}
use Rattle.std.proofs.Math.Seq.{drop-cons}
use Rattle.std.proofs.lemmas.Slice.Eq.{bytes_eq-Decides}
use Rattle.std.specs.Bool.{Decides}
use Rattle.std.specs.List.{concat}
use Rattle.std.specs.Str.{bytes_eq}

-- a piece that both begin with
pub join_same : (piece rest more : List ℕ) → bytes_eq (piece ++ rest) (piece ++ more) ≡ bytes_eq rest more
join_same [] rest more = refl
join_same (c ∷ piece) rest more =
    ap (λ b. b && bytes_eq (piece ++ rest) (piece ++ more)) (eq-eqb c c refl) ∙ join_same piece rest more

-- a piece that the text does not begin with
pub join_other : (text piece more : List ℕ) → ((rest : List ℕ) → text ≢ piece ++ rest) → bytes_eq text (piece ++ more) ≡ false
join_other text piece more other = go (bytes_eq text (piece ++ more)) refl
  where
    go : (b : Bool) → bytes_eq text (piece ++ more) ≡ b → b ≡ false
    go false e = refl
    go true e = let decided : Decides (bytes_eq text (piece ++ more)) (text ≡ piece ++ more) = bytes_eq-Decides text (piece ++ more) in absurd (other more (decided.0 e))

-- an end that the text does not end with
pub join_end : (text front end : List ℕ) → ((rest : List ℕ) → text ≢ rest ++ end) → bytes_eq text (front ++ end) ≡ false
join_end text front end other = go (bytes_eq text (front ++ end)) refl
  where
    go : (b : Bool) → bytes_eq text (front ++ end) ≡ b → b ≡ false
    go false e = refl
    go true e = let decided : Decides (bytes_eq text (front ++ end)) (text ≡ front ++ end) = bytes_eq-Decides text (front ++ end) in absurd (other front (decided.0 e))

-- the pieces from one on
pub pieces_from : (pieces : List (Bor (List ℕ))) (i : ℕ) (d : Bor (List ℕ)) → i < length pieces
    → concat (map (λ p. p.now) (drop i pieces)) ≡ (get_or pieces i d).now ++ concat (map (λ p. p.now) (drop (i + 1) pieces))
pieces_from pieces i d below =
    ap (λ ps. concat (map (λ p. p.now) ps)) (drop-cons pieces i d below)
    ∙ ap (λ n. (get_or pieces i d).now ++ concat (map (λ q. q.now) (drop n pieces))) (sym (add-one i))

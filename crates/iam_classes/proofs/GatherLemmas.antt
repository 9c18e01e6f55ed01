-- Words gathered from the rows of the statements of a kind, one statement after the other.
use Rattle.std.proofs.Common.{◌≡◌, ◌⊎◌, inl, inr, ◌↔◌, ℕ, suc, zero, ◌+◌, ◌<◌, ◌≤◌, Bool, List, [], ◌∷◌, drop, get_or, length, refl, sym, subst, arith}
use Rattle.std.specs.Borrow.{Bor}
use Rattle.std.specs.Int.{bit_at}
use Rattle.std.specs.Int.Bits.{bit_or}
use Rattle.std.specs.List.{Any}
use Rattle.std.proofs.lemmas.Nat.Bits.{bit_at-zero}
use Rattle.iam_decision.specs.declared.living.Matched.{Matched}
use Rattle.iam_classes.specs.Batch.{Acts, AreFoundIn, IsWord, matched_of}
use Rattle.iam_classes.specs.Code.Lanes.{Tells}
use Rattle.iam_classes.specs.declared.gather.Batch.{Batch}
use Rattle.iam_decision.specs.declared.living.Living.{Living}
use Rattle.std.proofs.lemmas.List.{drop_all, drop_more}
use Rattle.iam_classes.proofs.WordLemmas.{or_bits}

-- one of a list is the first or one behind it
any_more : (P : Matched → Type 0) (s : Matched) (ss : List Matched) → Any P (s ∷ ss) ↔ (P s ⊎ Any P ss)
any_more P s ss = (split, (λ h. elim h [ inl p ↦ (0, s, omega arith, refl, p) | inr (i, x, below, at, p) ↦ (suc i, x, omega arith, at, p) ]))
  where
    split : Any P (s ∷ ss) → P s ⊎ Any P ss
    split (zero, x, below, at, p) = inl (subst P (sym at) p)
    split (suc i, x, below, at, p) = inr (i, x, (let b : i < length ss = omega arith in b), at, p)

-- of the statements found, one has the property if one looked at has, or one of those left
abbrev pub IsLeft : (Matched → Type 0) → List Matched → Type 0 → List Matched → List (Bor (List Bool)) → ℕ → Type 0
IsLeft P found seen statements rows a =
    (rest : List Matched) × AreFoundIn statements rows a rest × (Any P found ↔ (seen ⊎ Any P rest))

-- one more is looked at
look : (P : Matched → Type 0) (found : List Matched) (before now : Type 0) (s : Matched) (ss : List Matched) (r : Bor (List Bool))
    (rs : List (Bor (List Bool))) (a : ℕ) → (now ↔ (before ⊎ (Acts r.now a × P s)))
    → IsLeft P found before (s ∷ ss) (r ∷ rs) a → IsLeft P found now ss rs a
look P found before now s ss r rs a is (rest, inl (on, (later, same, are)), any) = (
  later,
  are,
  (
    (λ one. elim (any.0 one) [
      | inl old ↦ inl (is.1 (inl old))
      | inr more ↦ elim ((any_more P s later).0 (subst (Any P) same more)) [ inl p ↦ inl (is.1 (inr (on, p))) | inr behind ↦ inr behind ]
    ]),
    (λ h. any.1 (elim h [
      | inl new ↦ elim (is.0 new) [ inl old ↦ inl old | inr last ↦ inr (subst (Any P) (sym same) ((any_more P s later).1 (inl last.1))) ]
      | inr behind ↦ inr (subst (Any P) (sym same) ((any_more P s later).1 (inr behind)))
    ])),
  ),
)
look P found before now s ss r rs a is (rest, inr (off, are), any) = (
  rest,
  are,
  (
    (λ one. elim (any.0 one) [ inl old ↦ inl (is.1 (inl old)) | inr behind ↦ inr behind ]),
    (λ h. any.1 (elim h [
      | inl new ↦ elim (is.0 new) [ inl old ↦ inl old | inr last ↦ (let on = last.0 in let wrong : ⊥ = cc in absurd wrong) ]
      | inr behind ↦ inr behind
    ])),
  ),
)

-- a row with nothing in it
abbrev pub no_row : Bor (List Bool)
no_row = record { ref_ptr = (0, 0); now = [] }

-- the bits of the first n statements that have the property
abbrev pub AreGathered : (Matched → Type 0) → Batch → ℕ → ℕ → Type 0
AreGathered P b lanes n =
    (k : ℕ) (found : List Matched) → k < b.count → AreFoundIn (matched_of b.living.now) b.rows.now (b.from + k) found
    → IsLeft P found (bit_at lanes k ≡ 1) (matched_of (drop n b.living.now)) (drop n b.rows.now) (b.from + k)

pub gathered_none : (P : Matched → Type 0) (b : Batch) → AreGathered P b 0 0
gathered_none P b = λ k found few are. (
  found,
  are,
  (
    (λ any. inr any),
    (λ h. elim h [
      | inl one ↦ absurd (let zero_is = bit_at-zero k in omega (arith, one, zero_is))
      | inr any ↦ any
    ]),
  ),
)

-- one more is looked at, which has the property or has it not
gathered_next : (P : Matched → Type 0) (b : Batch) (lanes new n : ℕ) (l : Living) → n < length b.living.now
    → ((k : ℕ) → k < b.count
    → (bit_at new k ≡ 1) ↔ ((bit_at lanes k ≡ 1) ⊎ (Acts (get_or b.rows.now n no_row).now (b.from + k) × P (get_or b.living.now n l).matched)))
    → AreGathered P b lanes n → AreGathered P b new (n + 1)
gathered_next P b lanes new n l below is before = λ k found few are.
    let seen = bit_at lanes k ≡ 1 in
    let a = b.from + k in
    let rows = drop n b.rows.now in
    let first = subst (λ ls. IsLeft P found seen (matched_of ls) rows a) (drop_more b.living.now n l below) (before k found few are) in
    let row = drop_more b.rows.now n no_row (omega (arith, below, b.lengths)) in
    look P found seen (bit_at new k ≡ 1) (get_or b.living.now n l).matched (matched_of (drop (n + 1) b.living.now))
    (get_or b.rows.now n no_row) (drop (n + 1) b.rows.now) a (is k few)
    (subst (λ rs. IsLeft P found seen ((get_or b.living.now n l).matched ∷ matched_of (drop (n + 1) b.living.now)) rs a) row first)

pub gathered_more : (P : Matched → Type 0) (b : Batch) (lanes word n : ℕ) (l : Living) → n < length b.living.now
    → P (get_or b.living.now n l).matched → IsWord (get_or b.rows.now n no_row).now b.from b.count word → AreGathered P b lanes n
    → AreGathered P b (bit_or lanes word) (n + 1)
gathered_more P b lanes word n l below p is = gathered_next P b lanes (bit_or lanes word) n l below (λ k few.
    let or = or_bits lanes word k in (
      (λ one. elim (or.0 one) [ inl old ↦ inl old | inr new ↦ inr ((is k few).0 new, p) ]),
      (λ h. or.1 (elim h [ inl old ↦ inl old | inr last ↦ inr ((is k few).1 last.0) ])),
    ))

pub gathered_skip : (P : Matched → Type 0) (b : Batch) (lanes n : ℕ) (l : Living) → n < length b.living.now
    → ¬ P (get_or b.living.now n l).matched → AreGathered P b lanes n → AreGathered P b lanes (n + 1)
gathered_skip P b lanes n l below not = gathered_next P b lanes lanes n l below
    (λ k few. ((λ one. inl one), (λ h. elim h [ inl one ↦ one | inr last ↦ absurd (not last.1) ])))

none : (P : Matched → Type 0) → ¬ Any P []
none P (i, x, below, at, p) = omega arith

-- all are looked at
pub gathered_all : (P : Matched → Type 0) (b : Batch) (lanes n : ℕ) → length b.living.now ≤ n → AreGathered P b lanes n → Tells b lanes (Any P)
gathered_all P b lanes n all before = λ k found few are.
    let left = subst (λ ls. IsLeft P found (bit_at lanes k ≡ 1) (matched_of ls) (drop n b.rows.now) (b.from + k))
    (drop_all n b.living.now all) (before k found few are) in
    ends (drop n b.rows.now) (b.from + k) found (bit_at lanes k ≡ 1) left
  where
    ends : (rows : List (Bor (List Bool))) (a : ℕ) (found : List Matched) (seen : Type 0) → IsLeft P found seen [] rows a → seen ↔ Any P found
    ends [] a found seen (rest, are, any) = (
      (λ one. any.1 (inl one)),
      (λ h. elim (any.0 h) [ inl one ↦ one | inr more ↦ absurd (none P (subst (Any P) are more)) ]),
    )
    ends (r ∷ rs) a found seen (rest, are, any) = absurd are

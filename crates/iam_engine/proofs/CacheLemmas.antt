-- What is remembered: where it is asked for, and where one answer more is kept.
use Rattle.std.proofs.Common.{◌≡◌, ◌⊎◌, ◌↔◌, inl, inr, ◌&&◌, ℕ, Bool, true, nat_eq, Contains, IsTrue, IfSome, List, Option, Some, None, refl, sym, ap, subst, ◌∙◌}
use Rattle.std.proofs.lemmas.Bool.{and_parts, eqb-true}
use Rattle.std.specs.List.{slice_get}
use Rattle.std.specs.Map.{lookup}
use Rattle.std.specs.Str.{chars}
use Rattle.lru.specs.LruCache.{LruCache, put_entries}
use Rattle.lru.proofs.CallerLemmas.{Contains-lookup, Contains-put_entries}
use Rattle.iam_glob.specs.Glob.{Matches}
use Rattle.iam_glob.specs.declared.sign.Sign.{Sign}
use Rattle.iam_world.specs.World.{ResourceValue, WorldValue}
use Rattle.iam_engine.specs.Cache.{Entry, HasArn, IsTrueOf, Remembers}

-- keys are equal where their numbers are
abbrev pub same_key : ℕ × ℕ → ℕ × ℕ → Bool
same_key a b = nat_eq a.0 b.0 && nat_eq a.1 b.1

key_is : (key other : ℕ × ℕ) → same_key key other ≡ true → other ≡ key
key_is key other told =
    let both = and_parts (nat_eq key.0 other.0) (nat_eq key.1 other.1) told in
    let one = eqb-true key.0 other.0 both.0 in
    let two = eqb-true key.1 other.1 both.1 in
    subst (λ (x : ℕ). other ≡ (x, key.1)) (sym one) (subst (λ (y : ℕ). other ≡ (other.0, y)) (sym two) refl)

entry_is : (e : Entry) (key : ℕ × ℕ) (matched : Bool) → e.0 ≡ key → e.1 ≡ matched → e ≡ (key, matched)
entry_is e key matched one two = subst (λ (k : ℕ × ℕ). e ≡ (k, matched)) one (subst (λ (m : Bool). e ≡ (e.0, m)) two refl)

-- what is found for a key is an entry of it
pub found_among : (entries : List Entry) (key : ℕ × ℕ) (found : Option Bool) → found ≡ lookup (same_key key) entries
    → IfSome found (λ matched. Contains entries (key, matched))
found_among entries key None is = tt
found_among entries key (Some matched) is =
    let (other, among, told) = Contains-lookup (same_key key) entries matched (sym is) in
    subst (λ (k : ℕ × ℕ). Contains entries (k, matched)) (key_is key other told) among

-- what is there once an entry is put was there before, or is that entry
pub put_among : (cache : LruCache (ℕ × ℕ) Bool) (key : ℕ × ℕ) (matched : Bool) (e : Entry) → Contains (put_entries same_key cache key matched) e
    → Contains cache.entries e ⊎ (e ≡ (key, matched))
put_among cache key matched e among =
    elim (Contains-put_entries same_key cache key matched e among) [
      | inl there ↦ inl there
      | inr (value, key_of) ↦ inr (elim key_of [
        | inl same ↦ entry_is e key matched same value
        | inr (old, there, told) ↦ entry_is e key matched (key_is key e.0 told) value
      ])
    ]

same_some : {X : Type 0} (x y : X) → Some x ≡ Some y → x ≡ y
same_some x y e = cc

one_arn : (world : WorldValue) (r : ℕ) (arn other : List ℕ) → HasArn world r arn → HasArn world r other → arn ≡ other
one_arn world r arn other (x, at, is) (y, there, same) =
    is ∙ ap (λ (z : ResourceValue). z.arn) (same_some x y (sym at ∙ there)) ∙ sym same

-- what was found of a pattern and an ARN is true of the numbers that they have
pub true_of : (world : WorldValue) (texts : List (List Sign)) (n r : ℕ) (matched : Bool) (pattern : List Sign) (arn : List ℕ)
    → slice_get texts n ≡ Some pattern → HasArn world r arn → IsTrue matched ↔ Matches pattern (chars arn) → IsTrueOf world texts ((n, r), matched)
true_of world texts n r matched pattern arn at has agrees other another there stands =
    let P : List Sign → Type 0 = λ p. IsTrue matched ↔ Matches p (chars arn) in
    let A : List ℕ → Type 0 = λ a. IsTrue matched ↔ Matches other (chars a) in
    subst A (one_arn world r arn another has stands) (subst P (same_some pattern other (sym at ∙ there)) agrees)

pub remembers_no_more : (world : WorldValue) (texts : List (List Sign)) (old new : List Entry) → ((e : Entry) → Contains new e → Contains old e)
    → Remembers world texts old → Remembers world texts new
remembers_no_more world texts old new fewer right e among = right e (fewer e among)

pub remembers_more : (world : WorldValue) (texts : List (List Sign)) (old new : List Entry) (entry : Entry)
    → ((e : Entry) → Contains new e → Contains old e ⊎ (e ≡ entry)) → IsTrueOf world texts entry → Remembers world texts old → Remembers world texts new
remembers_more world texts old new entry more is right e among =
    elim (more e among) [ inl there ↦ right e there | inr same ↦ subst (IsTrueOf world texts) (sym same) is ]

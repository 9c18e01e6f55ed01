-- A pattern whose characters up to a colon are given matches actions of its service prefix alone.
use Rattle.std.proofs.Common.{◌≡◌, ◌⊎◌, ◌+◌, ◌%◌, ◌==◌, ◌<◌, ◌≤◌, drop, get_or, set, inl, inr, ℕ, zero, suc, Bool, true, false, cond, List, [], ◌∷◌, ◌++◌, length, map, Option, Some, None, option_map, refl, sym, ap, ◌∙◌, subst, arith}
use Rattle.std.proofs.lemmas.List.{drop_all, drop_more}
use Rattle.std.proofs.lemmas.List.Elements.{Contains-append_left, Contains-push}
use Rattle.std.proofs.lemmas.Option.{slice_get_within}
use Rattle.std.specs.List.{Contains, slice_get}
use Rattle.std.specs.Str.{chars}
use Rattle.std.specs.Global.{Vec}
use Rattle.iam_glob.specs.Glob.{MatchesFold, folded, plain_sign}
use Rattle.iam_glob.specs.Code.Walk.{Walks}
use Rattle.iam_glob.specs.declared.sign.Sign.{Sign}
use Rattle.iam_glob.specs.declared.sign.Sign.TheVariants.{Given, One, Any}
use Rattle.iam_glob.proofs.WalkLemmas.{matches_walks}
use Rattle.iam_services.specs.Services.{AreServices, Puts, TriesMatched, print_from, print_more, service, service_of, slot_of}
use Rattle.iam_services.specs.declared.services.Services.{Services}

-- what stands in a list with one more is in the list, or is the one more
get_back : {X : Type 0} (xs : List X) (x : X) (i : ℕ) (y : X) → slice_get (xs ++ x ∷ []) i ≡ Some y
    → (slice_get xs i ≡ Some y) ⊎ ((i ≡ length xs) × (y ≡ x))
get_back [] x zero y at = let same : y ≡ x = cc in inr (refl, same)
get_back [] x (suc i) y at = let wrong : ⊥ = cc in absurd wrong
get_back (z ∷ xs) x zero y at = inl at
get_back (z ∷ xs) x (suc i) y at = elim (get_back xs x i y at) [ inl there ↦ inl there | inr (last, same) ↦ inr (ap suc last, same) ]

some_same : {X : Type 0} (x y : X) → Some x ≡ Some y → x ≡ y
some_same x y same = cc

-- the prefix with one more character before it, which may be the colon
abbrev with_one : ℕ → Option (List ℕ) → Option (List ℕ)
with_one c rest = cond (c == 58) (Some []) (option_map (λ text. c ∷ text) rest)

-- what is behind the first character decides, unless that is the colon
one_more : (c : ℕ) (mine its : Option (List ℕ)) (prefix : List ℕ) → ((p : List ℕ) → mine ≡ Some p → its ≡ Some p)
    → with_one c mine ≡ Some prefix → with_one c its ≡ Some prefix
one_more c mine its prefix go is = by_colon (c == 58) refl mine go is
  where
    by_colon : (b : Bool) → (c == 58) ≡ b → (mine : Option (List ℕ)) → ((p : List ℕ) → mine ≡ Some p → its ≡ Some p)
        → with_one c mine ≡ Some prefix → with_one c its ≡ Some prefix
    by_colon true told mine go is = rw told (rw told at is)
    by_colon false told None go is = let none : None ≡ Some prefix = rw told at is in let wrong : ⊥ = cc in absurd wrong
    by_colon false told (Some p) go is = rw (told, go p refl) (rw told at is)

-- what the text begins with is what the pattern gives
walks_service : (signs : List Sign) (text prefix : List ℕ) → Walks folded signs text → service signs ≡ Some prefix
    → service (map plain_sign text) ≡ Some prefix
walks_service [] text prefix w is = let wrong : ⊥ = cc in absurd wrong
walks_service (Given c ∷ signs) [] prefix w is = absurd w
walks_service (Given c ∷ signs) (d ∷ text) prefix w is =
    let P : ℕ → Type 0 = λ e. with_one e (service (map plain_sign text)) ≡ Some prefix in
    subst P w.0 (one_more (folded c) (service signs) (service (map plain_sign text)) prefix (λ p. walks_service signs text p w.1) is)
walks_service (One ∷ signs) text prefix w is = let wrong : ⊥ = cc in absurd wrong
walks_service (Any ∷ signs) text prefix w is = let wrong : ⊥ = cc in absurd wrong

pub one_service : (signs : List Sign) (action prefix : List ℕ) → MatchesFold signs (chars action) → service signs ≡ Some prefix → service_of action ≡ Some prefix
one_service signs action prefix matched is = walks_service signs (chars action) prefix (matches_walks folded signs (chars action) matched) is

-- the slot of a prefix whose first characters make this number
abbrev pub slot_from : ℕ → Option (List ℕ) → Option ℕ
slot_from print rest = option_map (λ prefix. print_from print prefix % 256) rest

pub slot_at_colon : (print c : ℕ) (signs : List Sign) → (folded c == 58) ≡ true → slot_from print (service (Given c ∷ signs)) ≡ Some (print % 256)
slot_at_colon print c signs told = rw told

pub slot_behind : (print c : ℕ) (signs : List Sign) → (folded c == 58) ≡ false
    → slot_from print (service (Given c ∷ signs)) ≡ slot_from (print_more print (folded c)) (service signs)
slot_behind print c signs told = rw told (go (service signs))
  where
    go : (rest : Option (List ℕ)) → slot_from print (option_map (λ text. folded c ∷ text) rest) ≡ slot_from (print_more print (folded c)) rest
    go None = refl
    go (Some text) = refl

-- what is left of the signs at a place
pub slot_step : (print : ℕ) (signs : List Sign) (i : ℕ) (d : Sign) → i < length signs
    → slot_from print (service (drop i signs)) ≡ slot_from print (service (get_or signs i d ∷ drop (i + 1) signs))
slot_step print signs i d below = ap (λ (z : List Sign). slot_from print (service z)) (drop_more signs i d below)

pub slot_end : (print : ℕ) (signs : List Sign) (i : ℕ) → length signs ≤ i → slot_from print (service (drop i signs)) ≡ None
slot_end print signs i past = ap (λ (z : List Sign). slot_from print (service z)) (drop_all i signs past)

-- the prefix that has a slot
pub prefix_of : (found : Option (List ℕ)) (slot : ℕ) → Some slot ≡ option_map slot_of found → (prefix : List ℕ) × (found ≡ Some prefix) × (slot ≡ slot_of prefix)
prefix_of None slot is = let wrong : ⊥ = cc in absurd wrong
prefix_of (Some prefix) slot is = (prefix, refl, (let same : slot ≡ slot_of prefix = cc in same))

pub no_prefix : (found : Option (List ℕ)) (prefix : List ℕ) → None ≡ option_map slot_of found → ¬ (found ≡ Some prefix)
no_prefix None prefix is some = cc
no_prefix (Some other) prefix is some = cc

-- the actions in the slot of a pattern
pub tries_slot : (actions : List (List ℕ)) (services : Services) (signs : List Sign) (slot : ℕ) (numbers : Vec ℕ) → Some slot ≡ option_map slot_of (service signs)
    → slice_get services.slots.items slot ≡ Some numbers → AreServices actions services → TriesMatched actions signs numbers.items
tries_slot actions services signs slot numbers is there are a action at matched =
    let (prefix, same, own) = prefix_of (service signs) slot is in
    let S : ℕ → Type 0 = λ n. slice_get services.slots.items n ≡ Some numbers in
    are a action prefix numbers at (one_service signs action prefix matched same) (subst S own there)

-- one more action, which has no slot, or is put into it
pub services_same : (actions : List (List ℕ)) (action : List ℕ) (old new : Services) → None ≡ option_map slot_of (service_of action)
    → new.slots.items ≡ old.slots.items → AreServices actions old → AreServices (actions ++ action ∷ []) new
services_same actions action old new none same are a other prefix numbers at is there =
    elim (get_back actions action a other at) [
      | inl before ↦ are a other prefix numbers before is (sym (ap (λ (z : List (Vec ℕ)). slice_get z (slot_of prefix)) same) ∙ there)
      | inr (last, own) ↦ absurd (no_prefix (service_of action) prefix none (sym (ap service_of own) ∙ is))
    ]

pub services_more : (actions : List (List ℕ)) (action : List ℕ) (old new : Services) (slot : ℕ) → Some slot ≡ option_map slot_of (service_of action)
    → Puts old.slots.items new.slots.items slot (length actions) → AreServices actions old → AreServices (actions ++ action ∷ []) new
services_more actions action old new slot is puts are a other prefix numbers at named there =
    let (before, stood, kept, gained) = puts (slot_of prefix) numbers there in
    elim (get_back actions action a other at) [
      | inl first ↦ kept a (are a other prefix before first named stood)
      | inr (last, own) ↦
          let (mine, is_mine, has) = prefix_of (service_of action) slot is in
          let same : mine ≡ prefix = some_same mine prefix (sym is_mine ∙ ap service_of (sym own) ∙ named) in
          let C : ℕ → Type 0 = Contains numbers.items in
          subst C (sym last) (gained (ap slot_of (sym same) ∙ sym has))
    ]

-- a number that is put into a slot, and one that has no slot
pub puts_set : (old : List (Vec ℕ)) (slot number : ℕ) (before after : Vec ℕ) → slice_get old slot ≡ Some before
    → after.items ≡ before.items ++ number ∷ [] → Puts old (set old slot after) slot number
puts_set [] slot number before after stood is i numbers there = absurd (let within = slice_get_within [] slot before stood in omega (arith, within))
puts_set (v ∷ old) zero number before after stood is zero numbers there =
    let own : before ≡ v = cc in
    let same : numbers ≡ after = cc in
    let N : Vec ℕ → Type 0 = λ w. Contains w.items number in
    let kept : (a : ℕ) → Contains before.items a → Contains after.items a = λ a has.
    let L : List ℕ → Type 0 = λ xs. Contains xs a in subst L (sym is) (Contains-append_left before.items (number ∷ []) a has) in
    let gained : Contains after.items number =
    let L : List ℕ → Type 0 = λ xs. Contains xs number in subst L (sym is) (Contains-push before.items number) in
    let K : Vec ℕ → Type 0 = λ w. (a : ℕ) → Contains before.items a → Contains w.items a in
    (before, ap Some (sym own), subst K (sym same) kept, λ here. subst N (sym same) gained)
puts_set (v ∷ old) zero number before after stood is (suc i) numbers there = (numbers, there, λ a has. has, λ here. absurd (let wrong : ⊥ = cc in wrong))
puts_set (v ∷ old) (suc slot) number before after stood is zero numbers there = (numbers, there, λ a has. has, λ here. absurd (let wrong : ⊥ = cc in wrong))
puts_set (v ∷ old) (suc slot) number before after stood is (suc i) numbers there =
    let (first, at, kept, gained) = puts_set old slot number before after stood is i numbers there in
    (first, at, kept, λ here. gained (let less : i ≡ slot = cc in less))

pub puts_nowhere : (old : List (Vec ℕ)) (slot number : ℕ) → length old ≤ slot → Puts old old slot number
puts_nowhere old slot number past i numbers there =
    (numbers, there, λ a has. has, λ here. absurd (let within = slice_get_within old i numbers there in omega (arith, within, here, past)))

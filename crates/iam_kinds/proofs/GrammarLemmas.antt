-- The stages read the grammar.
use Rattle.std.proofs.Common.{◌≡◌, ◌↔◌, ℕ, ◌<◌, Bool, true, false, ◌==◌, List, [], ◌∷◌, ◌++◌, length, refl, sym, ap, ◌∙◌, subst, arith, Some, None, is_some, if◌then◌else◌}
use Rattle.std.specs.List.{list_all}
use Rattle.std.specs.Option.{option_map_or}
use Rattle.std.proofs.lemmas.Bool.{eqb-true}
use Rattle.iam_kinds.specs.Code.{first_stage, next_part, part_number, stage_at, stage_number, waited_in}
use Rattle.iam_kinds.specs.Kinds.{IsAction, IsIn, is_any_in, is_name_in, is_service_in}
use Rattle.iam_kinds.specs.Letters.{is_waited}
use Rattle.iam_kinds.specs.Walk.{completes}
use Rattle.iam_kinds.specs.declared.grammar.Grammar.{Grammar}
use Rattle.iam_kinds.specs.declared.grammar.Grammar.TheVariants.{AnyText, Action, FoldedText, FoldedAction}
use Rattle.iam_kinds.specs.declared.grammar.Stage.{Stage}
use Rattle.iam_kinds.specs.declared.grammar.Part.{Part}
use Rattle.iam_kinds.specs.declared.grammar.Part.TheVariants.{Anywhere, Start, Service, Colon, Name}
use Rattle.iam_kinds.proofs.PlaceLemmas.{both}

-- a step that a test decides
pub step_true : (text : List ℕ) (b : Bool) (stage : Stage) → b ≡ true
    → option_map_or (completes text) (if b then Some stage else None) false ≡ completes text stage
step_true text true stage e = refl
step_true text false stage e = absurd (cc)

pub any_to : (fold : Bool) (text : List ℕ) → list_all (is_any_in fold) text ≡ true → completes text (stage_at Anywhere fold) ≡ true
any_to fold [] e = refl
any_to fold (c ∷ text) e =
    let r = both (is_any_in fold c) (list_all (is_any_in fold) text) e in
    step_true text (is_any_in fold c) (stage_at Anywhere fold) r.0 ∙ any_to fold text r.1

pub any_from : (fold : Bool) (text : List ℕ) → completes text (stage_at Anywhere fold) ≡ true → list_all (is_any_in fold) text ≡ true
any_from fold [] e = refl
any_from fold (c ∷ text) e = by_test fold c text (any_from fold text) (is_any_in fold c) refl e
  where
    by_test : (fold : Bool) (c : ℕ) (text : List ℕ) → (completes text (stage_at Anywhere fold) ≡ true → list_all (is_any_in fold) text ≡ true)
        → (b : Bool) → is_any_in fold c ≡ b → completes (c ∷ text) (stage_at Anywhere fold) ≡ true → list_all (is_any_in fold) (c ∷ text) ≡ true
    by_test fold c text later true s e = rw s (later (rw s at e))
    by_test fold c text later false s e = let wrong : false ≡ true = rw s at e in absurd (cc)

pub every_text : (text : List ℕ) → list_all (is_any_in false) text ≡ true
every_text [] = refl
every_text (c ∷ text) = every_text text

pub name_to : (fold : Bool) (text : List ℕ) → list_all (is_name_in fold) text ≡ true → completes text (stage_at Name fold) ≡ true
name_to fold [] e = refl
name_to fold (c ∷ text) e =
    let r = both (is_name_in fold c) (list_all (is_name_in fold) text) e in
    step_true text (is_name_in fold c) (stage_at Name fold) r.0 ∙ name_to fold text r.1

pub name_from : (fold : Bool) (text : List ℕ) → completes text (stage_at Name fold) ≡ true → list_all (is_name_in fold) text ≡ true
name_from fold [] e = refl
name_from fold (c ∷ text) e = by_test fold c text (name_from fold text) (is_name_in fold c) refl e
  where
    by_test : (fold : Bool) (c : ℕ) (text : List ℕ) → (completes text (stage_at Name fold) ≡ true → list_all (is_name_in fold) text ≡ true)
        → (b : Bool) → is_name_in fold c ≡ b → completes (c ∷ text) (stage_at Name fold) ≡ true → list_all (is_name_in fold) (c ∷ text) ≡ true
    by_test fold c text later true s e = rw s (later (rw s at e))
    by_test fold c text later false s e = let wrong : false ≡ true = rw s at e in absurd (cc)

pub colon_to : (fold : Bool) (text : List ℕ) → 0 < length text → list_all (is_name_in fold) text ≡ true → completes text (stage_at Colon fold) ≡ true
colon_to fold [] some e = absurd (omega arith)
colon_to fold (c ∷ text) some e =
    let r = both (is_name_in fold c) (list_all (is_name_in fold) text) e in
    step_true text (is_name_in fold c) (stage_at Name fold) r.0 ∙ name_to fold text r.1

pub colon_from : (fold : Bool) (text : List ℕ) → completes text (stage_at Colon fold) ≡ true → (0 < length text) × (list_all (is_name_in fold) text ≡ true)
colon_from fold [] e = absurd (cc)
colon_from fold (c ∷ text) e = (omega arith, name_from fold (c ∷ text) e)

-- a colon is no character of a service
pub no_service : (fold : Bool) → is_service_in fold 58 ≡ false
no_service true = refl
no_service false = refl

pub service_to : (fold : Bool) (service name : List ℕ) → list_all (is_service_in fold) service ≡ true → 0 < length name → list_all (is_name_in fold) name ≡ true
    → completes (service ++ (58 ∷ name)) (stage_at Service fold) ≡ true
service_to fold [] name s some n = let none = no_service fold in rw none (colon_to fold name some n)
service_to fold (c ∷ service) name s some n =
    let r = both (is_service_in fold c) (list_all (is_service_in fold) service) s in
    let here : is_service_in fold c ≡ true = r.0 in rw here (service_to fold service name r.1 some n)

-- what completes the name of a service
abbrev pub IsRest : Bool → List ℕ → Type 0
IsRest fold text =
    (service name : List ℕ) × (text ≡ service ++ (58 ∷ name)) × (0 < length name) × (list_all (is_service_in fold) service ≡ true) × (list_all (is_name_in fold) name ≡ true)

pub service_from : (fold : Bool) (text : List ℕ) → completes text (stage_at Service fold) ≡ true → IsRest fold text
service_from fold [] e = absurd (cc)
service_from fold (c ∷ text) e = by_test fold c text (service_from fold text) (is_service_in fold c) refl e
  where
    by_test : (fold : Bool) (c : ℕ) (text : List ℕ) → (completes text (stage_at Service fold) ≡ true → IsRest fold text)
        → (b : Bool) → is_service_in fold c ≡ b → completes (c ∷ text) (stage_at Service fold) ≡ true → IsRest fold (c ∷ text)
    by_test fold c text later true s e =
        let r = later (rw s at e) in
        (c ∷ r.0, r.1, ap (λ t. c ∷ t) r.2, r.3, (let all : list_all (is_service_in fold) (c ∷ r.0) ≡ true = rw s r.4 in all), r.5)
    by_test fold c text later false s e = by_colon fold c text (c == 58) refl (rw s at e)
      where
        by_colon : (fold : Bool) (c : ℕ) (text : List ℕ) → (b : Bool) → (c == 58) ≡ b
            → option_map_or (completes text) (if c == 58 then Some (stage_at Colon fold) else None) false ≡ true → IsRest fold (c ∷ text)
        by_colon fold c text true s e =
            let r = colon_from fold text (rw s at e) in ([], text, ap (λ d. d ∷ text) (eqb-true c 58 s), r.0, refl, r.1)
        by_colon fold c text false s e = let wrong : false ≡ true = rw s at e in absurd (cc)

pub action_to : (fold : Bool) (text service name : List ℕ) → text ≡ service ++ (58 ∷ name) → 0 < length service → 0 < length name
    → list_all (is_service_in fold) service ≡ true → list_all (is_name_in fold) name ≡ true → completes text (stage_at Start fold) ≡ true
action_to fold text [] name e some more s n = absurd (omega arith)
action_to fold text (c ∷ service) name e some more s n =
    let r = both (is_service_in fold c) (list_all (is_service_in fold) service) s in
    ap (λ t. completes t (stage_at Start fold)) e
    ∙ step_true (service ++ (58 ∷ name)) (is_service_in fold c) (stage_at Service fold) r.0 ∙ service_to fold service name r.1 more n

pub action_from : (fold : Bool) (text : List ℕ) → completes text (stage_at Start fold) ≡ true → IsAction fold text
action_from fold [] e = absurd (cc)
action_from fold (c ∷ text) e = by_test fold c text (is_service_in fold c) refl e
  where
    by_test : (fold : Bool) (c : ℕ) (text : List ℕ) (b : Bool) → is_service_in fold c ≡ b → completes (c ∷ text) (stage_at Start fold) ≡ true → IsAction fold (c ∷ text)
    by_test fold c text true s e =
        let r = service_from fold text (rw s at e) in
        (c ∷ r.0, r.1, ap (λ t. c ∷ t) r.2, omega arith, r.3, (let all : list_all (is_service_in fold) (c ∷ r.0) ≡ true = rw s r.4 in all), r.5)
    by_test fold c text false s e = let wrong : false ≡ true = rw s at e in absurd (cc)

pub started : (grammar : Grammar) (text : List ℕ) → IsIn grammar text ↔ (completes text (first_stage grammar) ≡ true)
started AnyText text = (λ h. any_to false text (every_text text), λ e. tt)
started Action text = (λ h. action_to false text h.0 h.1 h.2 h.3 h.4 h.5 h.6, λ e. action_from false text e)
started FoldedText text = (λ h. any_to true text h, λ e. any_from true text e)
started FoldedAction text = (λ h. action_to true text h.0 h.1 h.2 h.3 h.4 h.5 h.6, λ e. action_from true text e)

pub alike : (b d : Bool) (stage : Stage) → is_some (if b then Some stage else None) ≡ true → is_some (if d then Some stage else None) ≡ true
    → (if b then Some stage else None) ≡ (if d then Some stage else None)
alike true true stage p q = refl
alike false d stage p q = absurd (cc)
alike true false stage p q = absurd (cc)

-- a letter of an action's prefix for which the grammar does not wait is no colon
pub service_goes : (fold : Bool) (c : ℕ) → is_some (next_part Service fold c) ≡ true → is_waited (waited_in Service) c ≡ false
    → next_part Service fold c ≡ Some (stage_at Service fold)
service_goes fold c goes free = by_test fold c (is_service_in fold c) refl goes free
  where
    by_test : (fold : Bool) (c : ℕ) (b : Bool) → is_service_in fold c ≡ b → is_some (next_part Service fold c) ≡ true → is_waited (waited_in Service) c ≡ false
        → next_part Service fold c ≡ Some (stage_at Service fold)
    by_test fold c true s goes free = rw s refl
    by_test fold c false s goes free = by_colon fold c (c == 58) refl (rw s at goes) free
      where
        by_colon : (fold : Bool) (c : ℕ) (b : Bool) → (c == 58) ≡ b → is_some (if c == 58 then Some (stage_at Colon fold) else None) ≡ true
            → is_waited (waited_in Service) c ≡ false → next_part Service fold c ≡ Some (stage_at Service fold)
        by_colon fold c true s goes free =
            let here : is_waited (waited_in Service) 58 ≡ false = subst (λ d. is_waited (waited_in Service) d ≡ false) (eqb-true c 58 s) free in
            let wrong : true ≡ false = here in absurd (cc)
        by_colon fold c false s goes free = let wrong : false ≡ true = rw s at goes in absurd (cc)

-- letters with which the grammar goes on, and for which it does not wait, lead to the same stage
pub same_part : (part : Part) (fold : Bool) (c o : ℕ) → is_some (next_part part fold c) ≡ true → is_some (next_part part fold o) ≡ true
    → is_waited (waited_in part) c ≡ false → is_waited (waited_in part) o ≡ false → next_part part fold c ≡ next_part part fold o
same_part Anywhere fold c o gc go wc wo = alike (is_any_in fold c) (is_any_in fold o) (stage_at Anywhere fold) gc go
same_part Start fold c o gc go wc wo = alike (is_service_in fold c) (is_service_in fold o) (stage_at Service fold) gc go
same_part Service fold c o gc go wc wo = service_goes fold c gc wc ∙ sym (service_goes fold o go wo)
same_part Colon fold c o gc go wc wo = alike (is_name_in fold c) (is_name_in fold o) (stage_at Name fold) gc go
same_part Name fold c o gc go wc wo = alike (is_name_in fold c) (is_name_in fold o) (stage_at Name fold) gc go

-- the grammar waits for a colon in an action's prefix alone
pub no_colon : (part : Part) → (part ≡ Service → ⊥) → waited_in part ≡ []
no_colon Anywhere h = refl
no_colon Start h = refl
no_colon Service h = absurd (h refl)
no_colon Colon h = refl
no_colon Name h = refl

-- ---- numbers of stages
pub few_parts : (part : Part) → part_number part < 5
few_parts Anywhere = omega arith
few_parts Start = omega arith
few_parts Service = omega arith
few_parts Colon = omega arith
few_parts Name = omega arith

pub same_parts : (one other : Part) → part_number one ≡ part_number other → one ≡ other
same_parts Anywhere Anywhere e = refl
same_parts Anywhere Start e = absurd (omega arith)
same_parts Anywhere Service e = absurd (omega arith)
same_parts Anywhere Colon e = absurd (omega arith)
same_parts Anywhere Name e = absurd (omega arith)
same_parts Start Anywhere e = absurd (omega arith)
same_parts Start Start e = refl
same_parts Start Service e = absurd (omega arith)
same_parts Start Colon e = absurd (omega arith)
same_parts Start Name e = absurd (omega arith)
same_parts Service Anywhere e = absurd (omega arith)
same_parts Service Start e = absurd (omega arith)
same_parts Service Service e = refl
same_parts Service Colon e = absurd (omega arith)
same_parts Service Name e = absurd (omega arith)
same_parts Colon Anywhere e = absurd (omega arith)
same_parts Colon Start e = absurd (omega arith)
same_parts Colon Service e = absurd (omega arith)
same_parts Colon Colon e = refl
same_parts Colon Name e = absurd (omega arith)
same_parts Name Anywhere e = absurd (omega arith)
same_parts Name Start e = absurd (omega arith)
same_parts Name Service e = absurd (omega arith)
same_parts Name Colon e = absurd (omega arith)
same_parts Name Name e = refl

pub same_number : (one other : Stage) → stage_number one ≡ stage_number other → one ≡ other
same_number one other e = by_folds one.part one.fold other.part other.fold e
  where
    by_folds : (p : Part) (f : Bool) (q : Part) (g : Bool) → stage_number (stage_at p f) ≡ stage_number (stage_at q g) → stage_at p f ≡ stage_at q g
    by_folds p true q true e = ap (λ r. stage_at r true) (same_parts p q (omega arith))
    by_folds p true q false e = let few = few_parts q in absurd (omega arith)
    by_folds p false q true e = let few = few_parts p in absurd (omega arith)
    by_folds p false q false e = ap (λ r. stage_at r false) (same_parts p q e)

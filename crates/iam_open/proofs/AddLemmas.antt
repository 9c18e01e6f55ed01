-- What is the same in contexts that agree on what is known and on some keys.
use Rattle.std.proofs.Common.{◌≡◌, ◌∙◌, ℕ, List, ◌++◌, All, Any, Bool, true, false, ◌&&◌, not, None, Option, Some, ap, get_or, refl, subst, sym}
use Rattle.std.specs.List.{flat_map, list_any}
use Rattle.iam_condition.specs.Entry.{EntryValue}
use Rattle.iam_context.specs.Context.{ContextValue, has_key, values_of}
use Rattle.iam_element.specs.Reading.{ResourceElement}
use Rattle.iam_match.specs.Code.Compared.{TextDiffers}
use Rattle.iam_match.specs.Entry.{EntryHolds}
use Rattle.iam_match.specs.Statement.{AccessValue, ResourceMatches, StatementMatches, TextMatches}
use Rattle.iam_open.specs.Asks.{element_keys, entry_keys, is_beyond, keys_asked, text_keys}
use Rattle.iam_open.specs.Code.Added.{IsSameFrom, IsSameOn}
use Rattle.iam_open.specs.Code.Certain.{Contexts, Tells}
use Rattle.iam_open.specs.Code.Known.{AgreeOn, Follows, entry_beyond, has_some, operand_beyond, request_in, text_beyond}
use Rattle.iam_open.specs.declared.certain.Certain.TheVariants.{Always, Never}
use Rattle.iam_open.proofs.AgreeLemmas.{UnaskedKeys, entry_same}
use Rattle.iam_open.proofs.AskLemmas.{beyond_append, beyond_text, entry_free, none_of_each}
use Rattle.iam_open.proofs.ContextLemmas.{has_of, second}
use Rattle.iam_open.proofs.FitLemmas.{differs_same, matches_same, negated_same, plain_same}
use Rattle.iam_open.proofs.ListLemmas.{neither, neither_is}
use Rattle.iam_policy.specs.Reading.{StatementValue}

-- ---- what is the same in contexts that agree on what is known and on these keys

on_both : (known more : List (List ℕ)) (one other : ContextValue) → AgreeOn known one other → AgreeOn more one other → AgreeOn (known ++ more) one other
on_both known more one other first rest key is = go (has_key known key) refl
  where
    go : (b : Bool) → has_key known key ≡ b → values_of one key ≡ values_of other key
    go true there = first key there
    go false absent = rest key (second (has_key known key) (has_key more key) (sym (has_of known more key) ∙ is) absent)

not_second : (a b : Bool) → b ≡ false → (a && b) ≡ false
not_second true b is = is
not_second false b is = refl

within : (known : List (List ℕ)) (context : ContextValue) (entry : EntryValue) → has_key known entry.key ≡ true
    → list_any (operand_beyond known) entry.values ≡ false → entry_beyond known context entry ≡ false
within known context entry is free =
    neither_is (not (has_key known entry.key)) (has_some (values_of context entry.key) && list_any (operand_beyond known) entry.values) (ap not is)
    (not_second (has_some (values_of context entry.key)) (list_any (operand_beyond known) entry.values) free)

-- an entry, of whose keys each is known or one of these
entry_on : UnaskedKeys → (known more : List (List ℕ)) (entry : EntryValue) → is_beyond (known ++ more) (entry_keys entry) ≡ false
    → IsSameOn known more (λ other. EntryHolds other entry)
entry_on unasked known more entry free one other first rest held =
    let parts = entry_free (known ++ more) entry free in
    (entry_same unasked (known ++ more) one other (on_both known more one other first rest) entry
    (within (known ++ more) one entry parts.0 parts.1)).0 held

-- members of lists, where each has the property
all_on : {X : Type 0} (P Q R : X → Type 0) (xs : List X) → All R xs → ((x : X) → R x → P x → Q x) → All P xs → All Q xs
all_on P Q R xs each on all k d below = on (get_or xs k d) (each k d below) (all k d below)

pub any_on : {X : Type 0} (P Q R : X → Type 0) (xs : List X) → All R xs → ((x : X) → R x → P x → Q x) → Any P xs → Any Q xs
any_on P Q R xs each on (k, x, below, at, p) = (k, x, below, at, on x (subst R at (each k x below)) p)

-- a resource element, by its texts
texts_on : (known more : List (List ℕ)) (element : ResourceElement) (resource : List ℕ)
    → All (λ text. text_beyond (known ++ more) text ≡ false) element.texts
    → IsSameOn known more (λ other. ResourceMatches (Some element) resource other)
texts_on known more element resource free one other first rest = go element.negated refl
  where
    go : (b : Bool) → element.negated ≡ b → ResourceMatches (Some element) resource one → ResourceMatches (Some element) resource other
    go true negated held =
        let both = on_both known more one other first rest in
        (negated_same element resource other negated).0
        (all_on (TextDiffers one resource) (TextDiffers other resource) (λ text. text_beyond (known ++ more) text ≡ false) element.texts free
        (λ text is. (differs_same (known ++ more) one other resource text both is).0) ((negated_same element resource one negated).1 held))
    go false plain held =
        let both = on_both known more one other first rest in
        (plain_same element resource other plain).0
        (any_on (TextMatches one resource) (TextMatches other resource) (λ text. text_beyond (known ++ more) text ≡ false) element.texts free
        (λ text is. (matches_same (known ++ more) one other resource text both is).0) ((plain_same element resource one plain).1 held))

element_on : (known more : List (List ℕ)) (element : Option ResourceElement) (resource : List ℕ)
    → is_beyond (known ++ more) (element_keys element) ≡ false → IsSameOn known more (λ other. ResourceMatches element resource other)
element_on known more None resource free one other first rest held = tt
element_on known more (Some element) resource free one other first rest held =
    texts_on known more element resource
    (λ k d below.
    sym (beyond_text (known ++ more) (get_or element.texts k d)) ∙ none_of_each text_keys (known ++ more) element.texts free k d below)
    one other first rest held

-- a statement, by its resource element and its conditions
pub statement_on : UnaskedKeys → (known more : List (List ℕ)) (s : StatementValue) → is_beyond (known ++ more) (keys_asked s) ≡ false
    → (access : AccessValue) (action : List ℕ) → IsSameOn known more (λ other. StatementMatches s (request_in access action other))
statement_on unasked known more s free access action one other first rest matches =
    let element = element_keys s.resource in
    let entries = flat_map entry_keys s.conditions in
    let parts = neither (is_beyond (known ++ more) element) (is_beyond (known ++ more) entries)
    (sym (beyond_append (known ++ more) element entries) ∙ free) in
    record {
      action = matches.action;
      rest = record {
        principal = matches.rest.principal;
        resource = element_on known more s.resource access.resource parts.0 one other first rest matches.rest.resource;
        conditions = λ k d below.
            entry_on unasked known more (get_or s.conditions k d) (none_of_each entry_keys (known ++ more) s.conditions parts.1 k d below) one other first
            rest (matches.rest.conditions k d below);
      };
    }

-- ---- where both agree with a context on what is known

pub from_same : (known : List (List ℕ)) (base : ContextValue) (more : List (List ℕ)) (P : Contexts) → IsSameOn known more P → IsSameFrom known base more P
from_same known base more P same one other a b both = same one other (λ key is. sym (a.agree key is) ∙ b.agree key is) both

pub from_always : (known : List (List ℕ)) (base : ContextValue) (more : List (List ℕ)) (P : Contexts) → Tells Always (Follows known base) P
    → IsSameFrom known base more P
from_always known base more P told one other a b both held = told other b

pub from_never : (known : List (List ℕ)) (base : ContextValue) (more : List (List ℕ)) (P : Contexts) → Tells Never (Follows known base) P
    → IsSameFrom known base more P
from_never known base more P told one other a b both held = absurd (told one a held)

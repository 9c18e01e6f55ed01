-- One action of each kind is decided like each that the pattern matches.
use Rattle.std.proofs.Common.{◌≡◌, ◌⊎◌, inl, inr, ◌↔◌, ◌<◌, ◌+◌, ◌∷◌, ◌++◌, [], ℕ, suc, zero, List, Option, None, Some, ◌∙◌, All, Contains, arith, ap, chars, get_or, length, map, refl, subst, sym, take, string_bytes, String}
use Rattle.std.proofs.lemmas.List.{length-map, map-append, take_more}
use Rattle.std.proofs.lemmas.List.FromFn.{get_or-range_with_len, length-range_with_len}
use Rattle.std.proofs.lemmas.List.Elements.{All-contains, All-push, All-take, Contains-append_cases, Contains-append_left, Contains-append_right, Contains-get_or, Contains-push_cases}
use Rattle.std.proofs.lemmas.Option.{get_or_from_slice_get, slice_get-get_or, slice_get_within}
use Rattle.std.proofs.lemmas.Str.{IsUtf8-string_bytes}
use Rattle.std.specs.Global.{Global}
use Rattle.std.specs.List.{range_with_len, slice_get}
use Rattle.std.specs.Option.{option_to_list}
use Rattle.iam_glob.specs.Glob.{Matches, MatchesFold, folded}
use Rattle.iam_glob.specs.declared.sign.Sign.{Sign}
use Rattle.iam_kinds.specs.Kinds.{folded_question}
use Rattle.iam_kinds.specs.Shown.{AreKindsFold}
use Rattle.iam_kinds.specs.States.{PassesLimit}
use Rattle.iam_match.specs.Statement.{ActionMatches}
use Rattle.iam_decision.specs.Applicable.{ApplicableValue, IsNumbered, value_of}
use Rattle.iam_decision.specs.declared.applicable.Applicable.{Applicable}
use Rattle.iam_decision.specs.Code.Scan.{requester_placed}
use Rattle.iam_decision.specs.Matched.{Placed, Selects, in_layer, in_level, placed}
use Rattle.iam_decision.specs.declared.place.Layer.TheVariants.{Org, Control, Resource}
use Rattle.iam_world.specs.World.{PrincipalValue, ResourceValue, WorldValue}
use Rattle.iam_layers.specs.Applicable.{applicable_of}
use Rattle.iam_layers.specs.Unnamed.{AreUnnamedPolicies, IsSaid as IsSaidOf, IsThere, bare_resource}
use Rattle.iam_layers.specs.declared.unnamed.Unnamed.{Unnamed}
use Rattle.iam_layers.specs.declared.unnamed.Unnamed.TheVariants.{Like, Of}
use Rattle.iam_every.specs.Alike.{AreAlikeActions}
use Rattle.iam_every.specs.Code.Meant.{CoverAll, Covers, IsSaid}
use Rattle.iam_every.specs.Every.{ActionsPass, AreActions, AreOwnActionGroupsAt, AreSaid, AreThere, EveryValue, IsMatched, IsMeantBy, LineValue, Says, line_of}
use Rattle.iam_every.specs.declared.asked.Line.{Line}
use Rattle.iam_every.specs.Names.{AgreeOnFold, AreActionGroups, action_question}
use Rattle.iam_every.specs.OwnActions.{ApplyTo, AreNeeded, AreOwnPolicies, IsPlain}
use Rattle.iam_every.proofs.LineLemmas.{at_in, text_scalars}
use Rattle.iam_every.proofs.ListLemmas.{first_or, here, mapped, none, of_mapped}
use Rattle.iam_every.proofs.MemberLemmas.{chosen_in, in_chosen}
use Rattle.iam_every.proofs.SideLemmas.{both_more}
use Rattle.iam_every.proofs.WalkLemmas.{select_pass, select_push}
use Rattle.iam_every.proofs.NamesLemmas.{alike_actions_by, one_some, policies_at}

-- ---- members of lists
all_members : {X : Type 0} (P : X → Type 0) (xs : List X) → ((x : X) → Contains xs x → P x) → All P xs
all_members P xs each k d below = each (get_or xs k d) (Contains-get_or xs k d below)

-- one more of the first i
pub take_next : (xs texts : List (List ℕ)) (i : ℕ) (text copy : List ℕ) → texts ≡ take i xs → slice_get xs i ≡ Some text → copy ≡ text
    → texts ++ copy ∷ [] ≡ take (i + 1) xs
take_next xs texts i text copy all at same =
    ap (λ l. l ++ copy ∷ []) all ∙ ap (λ t. take i xs ++ t ∷ []) (same ∙ sym (get_or_from_slice_get xs i text text at))
    ∙ sym (take_more xs i text (slice_get_within xs i text at))

-- ---- what is said
-- where a line says something of a text, it is said
pub says_said : (every : EveryValue) (text : List ℕ) (unnamed : Unnamed) → Says every text unnamed → IsSaid every unnamed
says_said every text unnamed (k, line, first, told) = elim told [
  | inl (r, (resource, at, arn), is) ↦
      let matches : Matches line.pattern (chars resource.arn) = subst (λ (t : List ℕ). Matches line.pattern (chars t)) (sym arn) first.matches in
      let (i, below, is_at) = at_in every.lines k line first.at in
      inr (r, (resource, at, (i, line, below, is_at, matches)), is)
  | inr (unknown, is) ↦ let (i, below, is_at) = at_in every.lines k line first.at in inl (i, line, below, is_at, is)
]

-- resources of which something is said are there
said_there : (every : EveryValue) (unnamed : Unnamed) → AreThere every → IsSaid every unnamed → IsThere every.world unnamed
said_there every unnamed there said = elim said [
  | inl (k, line, below, at, is) ↦
      subst (IsThere every.world) (sym is) (All-contains (λ (line : LineValue). IsThere every.world line.unnamed) every.lines line there (k, below, at))
  | inr (r, (resource, at, some), is) ↦ subst (IsThere every.world) (sym is) (slice_get_within every.world.resources r resource at)
]

-- ---- numbers
-- one more number
range_more : (a n : ℕ) → range_with_len a (n + 1) ≡ range_with_len a n ++ (a + n) ∷ []
range_more a zero = ap (λ (i : ℕ). i ∷ []) (let same : a ≡ a + 0 = omega arith in same)
range_more a (suc n) =
    let step : a + 1 + n ≡ a + suc n = omega arith in
    let last : suc n + 1 ≡ suc (n + 1) = omega arith in
    ap (range_with_len a) last ∙ ap (λ rest. a ∷ rest) (range_more (a + 1) n) ∙ ap (λ (i : ℕ). a ∷ (range_with_len (a + 1) n ++ i ∷ [])) step

pub next_range : (n : ℕ) → range_with_len 0 (n + 1) ≡ range_with_len 0 n ++ n ∷ []
next_range n = range_more 0 n ∙ ap (λ (i : ℕ). range_with_len 0 n ++ i ∷ []) (let same : 0 + n ≡ n = omega arith in same)

pub in_range : (n r : ℕ) → r < n → Contains (range_with_len 0 n) r
in_range n r below =
    (r, omega (arith, below, length-range_with_len 0 n), get_or-range_with_len 0 n r r below ∙ (let same : 0 + r ≡ r = omega arith in same))

abbrev pub like : ℕ → Unnamed
like r = Like r

-- the next number is chosen too, or is not
pub next_chosen : (P : ℕ → Type 0) (n : ℕ) (chosen : List ℕ) → Selects P (range_with_len 0 n) chosen → P n
    → Selects P (range_with_len 0 (n + 1)) (chosen ++ n ∷ [])
next_chosen P n chosen before holds =
    subst (λ (l : List ℕ). Selects P l (chosen ++ n ∷ [])) (sym (next_range n)) (select_push P (range_with_len 0 n) n chosen before holds)

pub next_passed : (P : ℕ → Type 0) (n : ℕ) (chosen : List ℕ) → Selects P (range_with_len 0 n) chosen → ¬ P n
    → Selects P (range_with_len 0 (n + 1)) chosen
next_passed P n chosen before not =
    subst (λ (l : List ℕ). Selects P l chosen) (sym (next_range n)) (select_pass P (range_with_len 0 n) n chosen before not)

told : (lines : List Line) → map (λ (line : Line). line.unnamed) lines ≡ map (λ (line : LineValue). line.unnamed) (map line_of lines)
told [] = refl
told (line ∷ lines) = ap (λ rest. line.unnamed ∷ rest) (told lines)

pub said_lines : (lines : List Line) (said : List Unnamed) → said ≡ map (λ (line : Line). line.unnamed) lines
    → said ≡ map (λ (line : LineValue). line.unnamed) (map line_of lines)
said_lines lines said is = is ∙ told lines

-- what the lines say, and what is said of all resources, is all
pub all_said : (every : EveryValue) (old new : List Unnamed) (matched : List ℕ) → old ≡ map (λ (line : LineValue). line.unnamed) every.lines
    → Selects (IsMatched every.world every.lines) (range_with_len 0 (length every.world.resources)) matched → new ≡ old ++ map like matched
    → AreSaid every new
all_said every old new matched lines chosen is = (matched, chosen, is ∙ ap (λ l. l ++ map like matched) lines)

pub is_said : (every : EveryValue) (said : List Unnamed) (unnamed : Unnamed) → AreSaid every said → Contains said unnamed → IsSaid every unnamed
is_said every said unnamed (matched, chosen, is) among =
    let unnamed_of : LineValue → Unnamed = λ line. line.unnamed in
    elim (Contains-append_cases (map unnamed_of every.lines) (map like matched) unnamed (subst (λ (l : List Unnamed). Contains l unnamed) is among)) [
      | inl told ↦ let (line, (k, below, at), same) = of_mapped unnamed_of unnamed every.lines told in inl (k, line, below, at, sym same)
      | inr further ↦
          let (r, there, same) = of_mapped like unnamed matched further in
          let numbers = range_with_len 0 (length every.world.resources) in
          inr (r, (chosen_in (IsMatched every.world every.lines) numbers matched r chosen there).1, sym same)
    ]

pub said_in : (every : EveryValue) (said : List Unnamed) (unnamed : Unnamed) → AreSaid every said → IsSaid every unnamed → Contains said unnamed
said_in every said unnamed (matched, chosen, is) told =
    let unnamed_of : LineValue → Unnamed = λ line. line.unnamed in
    subst (λ (l : List Unnamed). Contains l unnamed) (sym is) (elim told [
      | inl (k, line, below, at, same) ↦
          Contains-append_left (map unnamed_of every.lines) (map like matched) unnamed
          (subst (Contains (map unnamed_of every.lines)) (sym same) (mapped unnamed_of line every.lines (k, below, at)))
      | inr (r, (resource, at, some), same) ↦
          let inside = in_range (length every.world.resources) r (slice_get_within every.world.resources r resource at) in
          let numbers = range_with_len 0 (length every.world.resources) in
          let there = in_chosen (IsMatched every.world every.lines) numbers matched r chosen inside (resource, at, some) in
          Contains-append_right (map unnamed_of every.lines) (map like matched) unnamed
          (subst (Contains (map like matched)) (sym same) (mapped like r matched there))
    ])

pub all_there : (every : EveryValue) (said : List Unnamed) → AreThere every → AreSaid every said → All (IsThere every.world) said
all_there every said there are = all_members (IsThere every.world) said (λ unnamed among. said_there every unnamed there (is_said every said unnamed are among))

-- ---- policies that cover others
-- there is such a resource of each text
pub some_said : (world : WorldValue) (unnamed : Unnamed) (text : List ℕ) → IsThere world unnamed
    → (resource : ResourceValue) × IsSaidOf world unnamed text resource
some_said world (Like r) text there =
    let like = get_or world.resources r (bare_resource [] text) in
    (record like { arn = text }, (like, slice_get-get_or world.resources r (bare_resource [] text) there, refl))
some_said world (Of account) text there = (bare_resource account.now text, refl)

within : (x c r z : List Placed) (s : Placed) → Contains (x ++ z) s → Contains (x ++ (c ++ (r ++ z))) s
within x c r z s among = elim (Contains-append_cases x z s among) [
  | inl first ↦ Contains-append_left x (c ++ (r ++ z)) s first
  | inr later ↦ Contains-append_right x (c ++ (r ++ z)) s (Contains-append_right c (r ++ z) s (Contains-append_right r z s later))
]

-- where no policies stand with the resource, each statement is of the organisation or of the principal
plain_placed : (a : ApplicableValue) → IsPlain a → placed a ≡ in_layer Org a.org ++ requester_placed a
plain_placed a plain =
    ap (λ control. in_layer Org a.org ++ (in_layer Control control ++ (in_level Resource 0 (option_to_list a.resource) ++ requester_placed a))) plain.control
    ∙ ap (λ resource. in_layer Org a.org ++ (in_level Resource 0 (option_to_list resource) ++ requester_placed a)) plain.resource

pub covers : (a b : ApplicableValue) → ((s : Placed) → Contains (placed b) s → Contains (placed a) s) → Covers a b
covers a b inside one other alike =
    all_members (λ (s : Placed). ActionMatches s.statement.action one ↔ ActionMatches s.statement.action other) (placed b)
    (λ s among.
    All-contains (λ (s : Placed). ActionMatches s.statement.action one ↔ ActionMatches s.statement.action other) (placed a) s alike (inside s among))

pub plain_covered : (world : WorldValue) (principal : PrincipalValue) (one other : ResourceValue) (a b : ApplicableValue)
    → a ≡ applicable_of world principal one → b ≡ applicable_of world principal other → IsPlain b → Covers a b
plain_covered world principal one other a b a_is b_is plain =
    let own : ApplicableValue → List Placed = λ x. in_layer Org x.org ++ requester_placed x in
    let same : own b ≡ own a = ap own b_is ∙ sym (ap own a_is) in
    covers a b (λ s among.
    within (in_layer Org a.org) (in_layer Control a.control) (in_level Resource 0 (option_to_list a.resource)) (requester_placed a) s
    (subst (λ (l : List Placed). Contains l s) (plain_placed b plain ∙ same) among))

-- those of one more
own_more : (world : WorldValue) (p : ℕ) (said : List Unnamed) (applicables : List ApplicableValue) (unnamed : Unnamed) → CoverAll world p said applicables
    → (a : ApplicableValue) → Contains applicables a
    → (u : Unnamed) × Contains (said ++ unnamed ∷ []) u × AreUnnamedPolicies world p u a
own_more world p said applicables unnamed cover a among =
    let (u, inside, are) = cover.own a among in (u, Contains-append_left said (unnamed ∷ []) u inside, are)

cover_added : (world : WorldValue) (p : ℕ) (said : List Unnamed) (applicables : List ApplicableValue) (unnamed : Unnamed) (b : ApplicableValue)
    → CoverAll world p said applicables → AreUnnamedPolicies world p unnamed b → CoverAll world p (said ++ unnamed ∷ []) (applicables ++ b ∷ [])
cover_added world p said applicables unnamed b cover are = record {
  own = λ a among. elim (Contains-push_cases applicables b a among) [
    | inl before ↦ own_more world p said applicables unnamed cover a before
    | inr is ↦ (
      unnamed,
      Contains-append_right said (unnamed ∷ []) unnamed (here unnamed []),
      subst (AreUnnamedPolicies world p unnamed) is are,
    )
  ];
  all = λ u among. elim (Contains-push_cases said unnamed u among) [
    | inl before ↦
        let (a, c, inside, are_c, reads) = cover.all u before in (a, c, Contains-append_left applicables (b ∷ []) a inside, are_c, reads)
    | inr is ↦ (
      b,
      b,
      Contains-append_right applicables (b ∷ []) b (here b []),
      subst (λ (x : Unnamed). AreUnnamedPolicies world p x b) is are,
      λ one other alike. alike,
    )
  ];
}

cover_kept : (world : WorldValue) (p : ℕ) (said : List Unnamed) (applicables : List ApplicableValue) (unnamed : Unnamed) (b : ApplicableValue)
    → CoverAll world p said applicables → AreUnnamedPolicies world p unnamed b → All (IsThere world) said → IsThere world unnamed
    → 0 < length applicables → IsPlain b → CoverAll world p (said ++ unnamed ∷ []) applicables
cover_kept world p said applicables unnamed b cover (principal, at, each) there is_there some plain =
    let a = get_or applicables 0 b in
    let among : Contains applicables a = Contains-get_or applicables 0 b some in
    let (u, inside, (other, other_at, other_each)) = cover.own a among in
    let (resource, told) = some_said world unnamed [] is_there in
    let (further, further_told) = some_said world u [] (All-contains (IsThere world) said u there inside) in
    let who : other ≡ principal = one_some (slice_get world.principals p) other principal other_at at in
    let a_is : a ≡ applicable_of world principal further =
    other_each [] further further_told ∙ ap (λ (x : PrincipalValue). applicable_of world x further) who in
    let reads = plain_covered world principal further resource a b a_is (each [] resource told) plain in record {
      own = own_more world p said applicables unnamed cover;
      all = λ v v_among. elim (Contains-push_cases said unnamed v v_among) [
        | inl before ↦ cover.all v before
        | inr is ↦ (a, b, among, subst (λ (x : Unnamed). AreUnnamedPolicies world p x b) is (principal, at, each), reads)
      ];
    }

-- ---- which they are
needed_added : (applicables needed : List ApplicableValue) (a : ApplicableValue) → AreNeeded applicables needed → (needed ≡ []) ⊎ ¬ IsPlain a
    → AreNeeded (applicables ++ a ∷ []) (needed ++ a ∷ [])
needed_added [] needed a is either = ([], ap (λ l. l ++ a ∷ []) is, refl)
needed_added (b ∷ applicables) needed a (rest, is, chosen) (inl empty) = absurd (let wrong : ⊥ = cc in wrong)
needed_added (b ∷ applicables) needed a (rest, is, chosen) (inr stands) =
    (rest ++ a ∷ [], ap (λ l. l ++ a ∷ []) is, select_push (λ x. ¬ IsPlain x) applicables a rest chosen stands)

needed_kept : (applicables needed : List ApplicableValue) (a : ApplicableValue) → AreNeeded applicables needed → 0 < length needed → IsPlain a
    → AreNeeded (applicables ++ a ∷ []) needed
needed_kept [] needed a is some plain = absurd (let none = ap length is in omega (arith, some, none))
needed_kept (b ∷ applicables) needed a (rest, is, chosen) some plain =
    (rest, is, select_pass (λ x. ¬ IsPlain x) applicables a rest chosen (λ stands. stands plain))

own_added : (world : WorldValue) (p : ℕ) (said : List Unnamed) (needed : List ApplicableValue) (unnamed : Unnamed) (a : ApplicableValue)
    → AreOwnPolicies world p said needed → ApplyTo world p unnamed a → (needed ≡ []) ⊎ ¬ IsPlain a
    → AreOwnPolicies world p (said ++ unnamed ∷ []) (needed ++ a ∷ [])
own_added world p said needed unnamed a (applicables, fit, are) apply either =
    (applicables ++ a ∷ [], both_more (ApplyTo world p) said applicables unnamed a fit apply, needed_added applicables needed a are either)

own_kept : (world : WorldValue) (p : ℕ) (said : List Unnamed) (needed : List ApplicableValue) (unnamed : Unnamed) (a : ApplicableValue)
    → AreOwnPolicies world p said needed → ApplyTo world p unnamed a → 0 < length needed → IsPlain a
    → AreOwnPolicies world p (said ++ unnamed ∷ []) needed
own_kept world p said needed unnamed a (applicables, fit, are) apply some plain =
    (applicables ++ a ∷ [], both_more (ApplyTo world p) said applicables unnamed a fit apply, needed_kept applicables needed a are some plain)

-- the policies that are looked at for the first i of what is said
pub record Looked (world : WorldValue) (p : ℕ) (said : List Unnamed) (applicables : List ApplicableValue) : Type 0 where
  pub numbered : All IsNumbered applicables
  pub cover : CoverAll world p said applicables
  pub own : AreOwnPolicies world p said applicables

pub looked_added : (world : WorldValue) (p : ℕ) (said : List Unnamed) (i : ℕ) (d : Unnamed) (before : List Applicable) (b : Applicable) → i < length said
    → Looked world p (take i said) (map value_of before) → AreUnnamedPolicies world p (get_or said i d) (value_of b) → IsNumbered (value_of b)
    → All (IsThere world) said → (before ≡ []) ⊎ ¬ IsPlain (value_of b) → Looked world p (take (i + 1) said) (map value_of (before ++ b ∷ []))
looked_added world p said i d before b below looked are is_numbered there either =
    let unnamed = get_or said i d in
    let apply : ApplyTo world p unnamed (value_of b) =
    record { there = All-contains (IsThere world) said unnamed there (Contains-get_or said i d below); policies = are } in
    let none : (map value_of before ≡ []) ⊎ ¬ IsPlain (value_of b) = elim either [ inl empty ↦ inl (ap (map value_of) empty) | inr stands ↦ inr stands ] in
    let more : Looked world p (take i said ++ unnamed ∷ []) (map value_of before ++ value_of b ∷ []) = record {
      numbered = All-push IsNumbered (map value_of before) (value_of b) looked.numbered is_numbered;
      cover = cover_added world p (take i said) (map value_of before) unnamed (value_of b) looked.cover are;
      own = own_added world p (take i said) (map value_of before) unnamed (value_of b) looked.own apply none;
    } in
    subst (λ (l : List Unnamed). Looked world p l (map value_of (before ++ b ∷ []))) (sym (take_more said i d below))
    (subst (Looked world p (take i said ++ unnamed ∷ [])) (sym (map-append value_of before (b ∷ []))) more)

pub looked_kept : (world : WorldValue) (p : ℕ) (said : List Unnamed) (i : ℕ) (d : Unnamed) (before : List Applicable) (b : Applicable) → i < length said
    → Looked world p (take i said) (map value_of before) → AreUnnamedPolicies world p (get_or said i d) (value_of b) → All (IsThere world) said
    → 0 < length before → IsPlain (value_of b) → Looked world p (take (i + 1) said) (map value_of before)
looked_kept world p said i d before b below looked are there some plain =
    let unnamed = get_or said i d in
    let is_there = All-contains (IsThere world) said unnamed there (Contains-get_or said i d below) in
    let many : 0 < length (map value_of before) = omega (arith, some, length-map before value_of) in
    subst (λ (l : List Unnamed). Looked world p l (map value_of before)) (sym (take_more said i d below)) (record {
      numbered = looked.numbered;
      cover = cover_kept world p (take i said) (map value_of before) unnamed (value_of b) looked.cover are (All-take (IsThere world) i said there)
          is_there many plain;
      own = own_kept world p (take i said) (map value_of before) unnamed (value_of b) looked.own (record { there = is_there; policies = are }) many plain;
    })

-- ---- actions
pub only : (x y : List Sign) → Contains (x ∷ []) y → x ≡ y
only x y among = elim (first_or x y [] among) [ inl same ↦ same | inr rest ↦ absurd (none y rest) ]

-- the bytes of a string
abbrev pub bytes_of : String Global → List ℕ
bytes_of text = string_bytes text

pub are_actions : (every : EveryValue) (p : ℕ) (pattern : List Sign) (said : List Unnamed) (applicables : List ApplicableValue)
    (groups : List (List (List Sign))) (texts : List (String Global)) → every.actions ≡ Some pattern → AreSaid every said
    → CoverAll every.world p said applicables → AreActionGroups applicables groups
    → AreKindsFold (action_question groups pattern) (map (λ text. chars (string_bytes text)) texts) → AreActions every p (map string_bytes texts)
are_actions every p pattern said applicables groups texts is are cover are_groups kinds = record {
  meant = all_members (λ action. IsMeantBy every.actions every.world action) (map bytes_of texts) (λ action among.
      let (text, inside, text_is) = of_mapped bytes_of action texts among in
      let m = kinds.meant (chars (bytes_of text)) (mapped (λ (t : String Global). chars (bytes_of t)) text texts inside) in
      subst (IsMeantBy every.actions every.world) text_is
      (subst (λ (o : Option (List Sign)). IsMeantBy o every.world (bytes_of text)) (sym is)
      (IsUtf8-string_bytes text, m.grammar, m.within pattern (here pattern []))));
  whole = λ action meant.
      let (action_utf8, grammar, matches) = subst (λ (o : Option (List Sign)). IsMeantBy o every.world action) is meant in
      let (characters, among, agree) = kinds.whole (chars action) (text_scalars action action_utf8) (record {
        grammar = grammar;
        within = λ other inside. subst (λ (x : List Sign). MatchesFold x (chars action)) (only pattern other inside) matches;
        unnamed = none (map folded (chars action));
      }) in
      let (text, inside, text_is) = of_mapped (λ (t : String Global). chars (bytes_of t)) characters texts among in
      let shown = bytes_of text in
      let alike : AgreeOnFold groups (chars shown) (chars action) = subst (λ (x : List ℕ). AgreeOnFold groups x (chars action)) (sym text_is) agree in (
        shown,
        mapped bytes_of text texts inside,
        λ row unnamed decision says.
            alike_actions_by every.world p unnamed shown action row decision (λ b access h.
            let (a, c, a_among, c_are, reads) = cover.all unnamed (said_in every said unnamed are (says_said every row unnamed says)) in
            subst (λ (x : ApplicableValue). AreAlikeActions x shown action) (policies_at every.world p unnamed shown row c b access c_are h)
            (reads shown action ((are_groups shown action).0 alike a a_among))),
      );
}

pub actions_pass : (every : EveryValue) (p : ℕ) (pattern : List Sign) (groups : List (List (List Sign))) → every.actions ≡ Some pattern
    → AreOwnActionGroupsAt every p groups → PassesLimit (folded_question (action_question groups pattern)) → ActionsPass every p
actions_pass every p pattern groups is own passes = record { pattern = pattern; is = is; groups = groups; own = own; passes = passes }

-- those of the world
pub world_actions : (every : EveryValue) (p : ℕ) (actions : List (List ℕ)) → every.actions ≡ None → actions ≡ every.world.actions → AreActions every p actions
world_actions every p actions is same = record {
  meant = all_members (λ action. IsMeantBy every.actions every.world action) actions (λ action among.
      subst (λ (o : Option (List Sign)). IsMeantBy o every.world action) (sym is) (subst (λ (l : List (List ℕ)). Contains l action) same among));
  whole = λ action meant. (
    action,
    subst (λ (l : List (List ℕ)). Contains l action) (sym same) (subst (λ (o : Option (List Sign)). IsMeantBy o every.world action) is meant),
    λ text unnamed decision says decided. decided,
  );
}

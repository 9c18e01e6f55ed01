-- What is kept by bits stays right where classes are added, and the class of bits is that of all requests that have them.
use Rattle.std.proofs.Common.{◌≡◌, ◌++◌, inl, inr, ℕ, List, [], Option, None, Some, IfSome, map, sym, ap, ◌∙◌, subst}
use Rattle.std.specs.List.{slice_get}
use Rattle.iam_decision.specs.Applicable.{ApplicableValue, frame_of}
use Rattle.iam_decision.specs.Code.Scan.{placed_value}
use Rattle.iam_decision.specs.Living.{SharedValue}
use Rattle.iam_decision.specs.declared.frame.Frame.{Frame}
use Rattle.iam_layers.specs.Cell.{IsApplicableAt, IsSharedAt}
use Rattle.iam_world.specs.World.{WorldValue}
use Rattle.iam_index.proofs.IndexLemmas.{access_applies}
use Rattle.iam_index.proofs.ListLemmas.{get_more, if_some, some_same}
use Rattle.iam_columns.specs.Slots.{AllAre, AreEmpty, GainsOnly, Keeps}
use Rattle.iam_columns.proofs.SlotLemmas.{all_empty, all_gained, all_weaker}
use Rattle.iam_living.specs.Asker.{AreBitsAt, IsAsker}
use Rattle.iam_living.specs.Listing.{AreAlikes, LiveAt, statements_of}
use Rattle.iam_living.specs.Living.{NoneConcerns}
use Rattle.iam_living.specs.declared.asker.Asker.{Asker}
use Rattle.iam_living.specs.declared.asker.Bits.{Bits}
use Rattle.iam_living.proofs.WordLemmas.{living_around, none_lives}
use Rattle.iam_classes.specs.Memo.{HasClass, HasMore, HasShared}
use Rattle.iam_classes.specs.Words.{AreAlikeClasses, AreWords, GainsAt, IsFoundAmong, IsWord, LiveByBits}
use Rattle.iam_classes.specs.declared.memo.Class.{Class}
use Rattle.iam_classes.specs.declared.words.Word.{Word}
use Rattle.iam_classes.specs.declared.words.Words.{Words}

-- it stays so where classes are added
pub word_more : (old new : List Class) (asker : Asker) (kept : Word) → HasMore old new → IsWord old asker kept → IsWord new asker kept
word_more old new asker kept (more, is) word =
    let C : List Class → Type 0 = λ cs. slice_get cs kept.class ≡ Some word.class in
    record { class = word.class; at = subst C (sym is) (get_more old more kept.class word.class word.at); living = word.living }

-- what requests share of which bits tell: these statements live, and this is asked beside them
pub shared_by_bits : (world : WorldValue) (p r : ℕ) (asker : Asker) (bits : Bits) (frame : Frame) (shared : SharedValue) → IsAsker world p asker
    → AreBitsAt world p r asker bits → ((a : ApplicableValue) → IsApplicableAt world p r a → frame ≡ frame_of a) → shared.frame ≡ frame
    → LiveByBits asker bits shared.living → IsSharedAt world p r shared
shared_by_bits world p r asker bits frame shared is told framed same living =
    let a = told.applicable in
    let applies = access_applies world p r a told.access told.at in (
      a,
      told.access,
      told.at,
      record {
        candidates = asker.listing.org ++ (map placed_value told.listed ++ asker.listing.own);
        frame = same ∙ framed a applies;
        are = is.lists r a told.listed applies told.lists;
        living = living told.access (map placed_value told.listed) told.are;
      },
    )

-- the class that is kept for bits is that of each request that has them, and asks the same beside the statements
pub class_by_bits : (world : WorldValue) (classes : List Class) (p r : ℕ) (asker : Asker) (kept : Word) (frame : Frame) → IsAsker world p asker
    → IsWord classes asker kept → AreBitsAt world p r asker kept.bits → ((a : ApplicableValue) → IsApplicableAt world p r a → frame ≡ frame_of a)
    → ((it : Class) → slice_get classes kept.class ≡ Some it → it.shared.frame ≡ frame) → HasClass world classes p r kept.class
class_by_bits world classes p r asker kept frame is word told framed same =
    (word.class, word.at, shared_by_bits world p r asker kept.bits frame word.class.shared is told framed (same word.class word.at) word.living)

-- and where no statement lives that stands with the resource, it was found among those that are listed for the principal
pub found_by_bits : (world : WorldValue) (classes : List Class) (p r : ℕ) (asker : Asker) (kept : Word) (frame : Frame) → IsWord classes asker kept
    → AreBitsAt world p r asker kept.bits → kept.bits.resource ≡ 0 → ((a : ApplicableValue) → IsApplicableAt world p r a → frame ≡ frame_of a)
    → ((it : Class) → slice_get classes kept.class ≡ Some it → it.shared.frame ≡ frame)
    → IsFoundAmong world classes p r (statements_of asker.listing) kept.class
found_by_bits world classes p r asker kept frame word told unset framed same =
    let a = told.applicable in
    let access = told.access in (
      word.class,
      word.at,
      record {
        applicable = a;
        access = access;
        at = told.at;
        frame_is = same word.class word.at ∙ framed a (access_applies world p r a access told.at);
        living_are =
            word.living access []
            (record { asks = told.are.asks; principal = told.are.principal; resource = unset; list = inl unset });
        none = (told.listed, told.lists, none_lives access (map placed_value told.listed) kept.bits.resource unset told.are.resource);
      },
    )

-- what was found among the statements that are listed is what the requests share
pub class_found : (world : WorldValue) (classes : List Class) (p r n : ℕ) (asker : Asker) → IsAsker world p asker
    → IsFoundAmong world classes p r (statements_of asker.listing) n → HasClass world classes p r n
class_found world classes p r n asker is (class, at, live) =
    let (listed, there, none) = live.none in
    let org = asker.listing.org in
    let own = asker.listing.own in (
      class,
      at,
      (
        live.applicable,
        live.access,
        live.at,
        record {
          candidates = org ++ (map placed_value listed ++ own);
          frame = live.frame_is;
          are = is.lists r live.applicable listed (access_applies world p r live.applicable live.access live.at) there;
          living = living_around live.access org (map placed_value listed) own class.shared.living none live.living_are;
        },
      ),
    )

-- it stays so where classes are added
found_more : (world : WorldValue) (old new : List Class) (p r n : ℕ) (asker : Asker) → HasMore old new
    → IsFoundAmong world old p r (statements_of asker.listing) n → IsFoundAmong world new p r (statements_of asker.listing) n
found_more world old new p r n asker (more, is) (class, at, live) =
    let C : List Class → Type 0 = λ cs. slice_get cs n ≡ Some class in (class, subst C (sym is) (get_more old more n class at), live)

alikes_more : (world : WorldValue) (old new : List Class) (asker : Asker) (kept : List (Option ℕ)) → HasMore old new → AreAlikeClasses world old asker kept
    → AreAlikeClasses world new asker kept
alikes_more world old new asker kept more are number class at =
    let (r, has, found) = are number class at in (r, has, found_more world old new asker.principal r class asker more found)

-- what is kept for the principal that asks
abbrev pub AreKept : WorldValue → List Class → Words → Asker → Type 0
AreKept world classes words asker =
    IsAsker world asker.principal asker × AllAre (IsWord classes asker) words.slots.items × AreAlikeClasses world classes asker words.alikes.items

-- everything stays right where classes are added, and where all words are let go
pub words_more : (world : WorldValue) (old new : List Class) (words : Words) → HasMore old new → AreWords world old words → AreWords world new words
words_more world old new words more are =
    if_some (AreKept world old words) (AreKept world new words) words.asker
    (λ a (asked, all, alikes).
    let S : Word → Type 0 = IsWord old a in
    let T : Word → Type 0 = IsWord new a in (
      asked,
      all_weaker S T words.slots.items (λ kept. word_more old new a kept more) all,
      alikes_more world old new a words.alikes.items more alikes,
    ))
    are

pub words_forgotten : (world : WorldValue) (classes others : List Class) (old new : Words) → AreWords world classes old → new.asker ≡ old.asker
    → AreEmpty new.slots.items → AreEmpty new.alikes.items → AreWords world others new
words_forgotten world classes others old new are same none empty =
    let O : Option Asker → Type 0 = λ o. IfSome o (AreKept world others new) in
    subst O (sym same)
    (if_some (AreKept world classes old) (AreKept world others new) old.asker
    (λ a (asked, all, alikes). (asked, all_empty (IsWord others a) new.slots.items none, λ number class at. absurd (empty number class at)))
    are)

pub words_of : (world : WorldValue) (classes : List Class) (words : Words) (asker : Asker) → words.asker ≡ Some asker → AreWords world classes words
    → AreKept world classes words asker
words_of world classes words asker is are = let O : Option Asker → Type 0 = λ o. IfSome o (AreKept world classes words) in subst O is are

-- the asker is principal p
pub asker_of : (world : WorldValue) (classes : List Class) (words : Words) (asker : Asker) (p : ℕ) → words.asker ≡ Some asker
    → AreWords world classes words → asker.principal ≡ p → IsAsker world p asker
asker_of world classes words asker p is are same =
    let A : ℕ → Type 0 = λ q. IsAsker world q asker in subst A same (words_of world classes words asker is are).0

-- one more word is kept for it
pub words_kept : (world : WorldValue) (classes : List Class) (old new : Words) (asker : Asker) (kept : Word) → old.asker ≡ Some asker
    → AreWords world classes old → new.asker ≡ old.asker → new.alikes ≡ old.alikes → GainsOnly old.slots.items new.slots.items kept
    → IsWord classes asker kept → AreWords world classes new
words_kept world classes old new asker kept is are same rest gains one =
    let (asked, all, alikes) = words_of world classes old asker is are in
    let A : _ → Type 0 = λ kept. AreAlikeClasses world classes asker kept.items in
    let O : Option Asker → Type 0 = λ o. IfSome o (AreKept world classes new) in
    subst O (sym (same ∙ is)) (asked, all_gained (IsWord classes asker) old.slots.items new.slots.items kept gains all one, subst A (sym rest) alikes)

-- and the class of one more number
pub alikes_kept : (world : WorldValue) (classes : List Class) (old new : Words) (asker : Asker) (number : Option ℕ) (r n : ℕ) → old.asker ≡ Some asker
    → AreWords world classes old → new.asker ≡ old.asker → new.slots ≡ old.slots → GainsAt old.alikes.items new.alikes.items number n
    → IfSome number (λ i. Keeps asker.listing.alikes r i × IsFoundAmong world classes asker.principal r (statements_of asker.listing) n)
    → AreWords world classes new
alikes_kept world classes old new asker number r n is are same rest gains found =
    let (asked, all, alikes) = words_of world classes old asker is are in
    let W : _ → Type 0 = λ slots. AllAre (IsWord classes asker) slots.items in
    let O : Option Asker → Type 0 = λ o. IfSome o (AreKept world classes new) in
    let kept : AreAlikeClasses world classes asker new.alikes.items = λ i class at.
    elim (gains i class at) [
      | inl (here, own) ↦
          let N : Option ℕ → Type 0 =
          λ o. IfSome o (λ j. Keeps asker.listing.alikes r j × IsFoundAmong world classes asker.principal r (statements_of asker.listing) n) in
          let F : ℕ → Type 0 = IsFoundAmong world classes asker.principal r (statements_of asker.listing) in
          let (has, among) = subst N here found in
          (r, has, subst F (sym own) among)
      | inr before ↦ alikes i class before
    ] in
    subst O (sym (same ∙ is)) (asked, subst W (sym rest) all, kept)

-- the class that is kept for a number is that of requests for each resource that has it, if no statement that stands with the
-- resource is about the principal
pub class_of_number : (world : WorldValue) (classes : List Class) (words : Words) (asker : Asker) (p r number n : ℕ) → words.asker ≡ Some asker
    → AreWords world classes words → asker.principal ≡ p → AreAlikes asker.listing → Keeps asker.listing.alikes r number
    → Keeps words.alikes.items number n → NoneConcerns world asker.principal r → HasClass world classes p r n
class_of_number world classes words asker p r number n is are same alike has at concerns =
    let (asked, all, alikes) = words_of world classes words asker is are in
    let (other, there, (class, kept, live)) = alikes number n at in
    let statements = statements_of asker.listing in
    let shared = class.shared in
    let L : WorldValue → Type 0 =
    λ w.
    NoneConcerns w asker.principal r → LiveAt w asker.principal other statements shared.frame shared.living
    → LiveAt w asker.principal r statements shared.frame shared.living in
    let live_here = subst L asked.of (alike asker.principal other r number shared.frame shared.living there has) concerns live in
    let C : ℕ → Type 0 = λ q. HasClass world classes q r n in
    subst C same (class_found world classes asker.principal r n asker asked (class, kept, live_here))

-- the class of what requests share that have the bits is kept for them
pub class_is_word : (classes : List Class) (asker : Asker) (bits : Bits) (n : ℕ) (shared : SharedValue) → HasShared classes shared n
    → LiveByBits asker bits shared.living → IsWord classes asker (record { bits = bits; class = n })
class_is_word classes asker bits n shared (class, at, same) living =
    let S : SharedValue → Type 0 = λ s. LiveByBits asker bits s.living in record { class = class; at = at; living = subst S (sym same) living }

-- and what is asked beside its statements is what the requests ask
pub frame_of_class : (classes : List Class) (n : ℕ) (shared : SharedValue) (frame : Frame) → HasShared classes shared n → shared.frame ≡ frame
    → (it : Class) → slice_get classes n ≡ Some it → it.shared.frame ≡ frame
frame_of_class classes n shared frame (class, at, same) framed it there =
    ap (λ (c : Class). c.shared.frame) (some_same it class (sym there ∙ at)) ∙ ap (λ (s : SharedValue). s.frame) same ∙ framed

-- nothing is kept where no principal asked
pub no_words : (world : WorldValue) (classes : List Class) (words : Words) → words.asker ≡ None → AreWords world classes words
no_words world classes words none =
    let O : Option Asker → Type 0 =
    λ o. IfSome o (λ asker. IsAsker world asker.principal asker × AllAre (IsWord classes asker) words.slots.items
    × AreAlikeClasses world classes asker words.alikes.items) in
    subst O (sym none) tt

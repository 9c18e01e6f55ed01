-- Lines that come in blocks, and the requests that they are.
use Rattle.std.proofs.Common.{◌≡◌, ◌≢◌, ◌∙◌, ◌==◌, ℕ, zero, suc, ◌≤◌, false, List, [], ◌∷◌, ◌++◌, Option, Some, None, if◌then◌else◌, ap, append_assoc, arith, length, refl, subst, sym, take}
use Rattle.std.specs.List.{slice_get}
use Rattle.std.specs.Io.KnownBytes.{Consumes}
use Rattle.std.proofs.Math.Seq.{take-append_seam}
use Rattle.std.proofs.lemmas.List.{append-nil}
use Rattle.std.proofs.lemmas.Slice.Zip.{AllZip-long, all_zipped_more}
use Rattle.iam_world.specs.World.{WorldValue}
use Rattle.iam_asked.specs.Code.Cut.{HasRead, IsFaultOf, IsUnbroken}
use Rattle.iam_asked.specs.Fault.{IsLineFault}
use Rattle.iam_asked.specs.File.{AreRequests, IsFileFault, IsFirstFaulty, OfBytes, begin_with, lines_of}
use Rattle.iam_asked.specs.Request.{AskedValue, IsRequest, RequestsValue, with_asked}
use Rattle.iam_asked.specs.Said.{IsShort}
use Rattle.iam_asked.specs.Size.{AreSmall}
use Rattle.iam_asked.specs.declared.fault.AskFault.{AskFault}
use Rattle.iam_asked.specs.declared.fault.AskFault.TheVariants.{Read, Line, OutOfMemory}
use Rattle.iam_asked.specs.declared.fault.FaultyLine.{FaultyLine}

-- ---- lines

-- a byte that is no line feed begins the first line
begins : (c : ℕ) (cs : List ℕ) → (c == 10) ≡ false → lines_of (c ∷ cs) ≡ begin_with c (lines_of cs)
begins c cs other = ap (λ b. if b then [] ∷ lines_of cs else begin_with c (lines_of cs)) other

-- a line that ends
pub ended : (line bytes : List ℕ) → IsUnbroken line → lines_of (line ++ 10 ∷ bytes) ≡ line ∷ lines_of bytes
ended [] bytes unbroken = refl
ended (c ∷ cs) bytes unbroken = begins c (cs ++ 10 ∷ bytes) unbroken.0 ∙ ap (begin_with c) (ended cs bytes unbroken.1)

-- the last line
pub last : (rest : List ℕ) → IsUnbroken rest → rest ≢ [] → lines_of rest ≡ rest ∷ []
last [] unbroken some = absurd (some refl)
last (c ∷ []) unbroken some = begins c [] unbroken.0
last (c ∷ d ∷ cs) unbroken some = begins c (d ∷ cs) unbroken.0 ∙ ap (begin_with c) (last (d ∷ cs) unbroken.1 (λ none. let wrong : ⊥ = cc in wrong))

-- a line that goes on
goes_on : (rest more : List ℕ) → IsUnbroken rest → rest ≢ []
    → (line : List ℕ) × (others : List (List ℕ)) × (lines_of (rest ++ more) ≡ line ∷ others) × (length rest ≤ length line)
goes_on [] more unbroken some = absurd (some refl)
goes_on (c ∷ []) more unbroken some = by (lines_of more) refl
  where
    by : (lines : List (List ℕ)) → lines_of more ≡ lines
        → (line : List ℕ) × (others : List (List ℕ)) × (lines_of (c ∷ more) ≡ line ∷ others) × (length (c ∷ []) ≤ length line)
    by [] e = (c ∷ [], [], begins c more unbroken.0 ∙ ap (begin_with c) e, omega arith)
    by (line ∷ others) e = (c ∷ line, others, begins c more unbroken.0 ∙ ap (begin_with c) e, omega arith)
goes_on (c ∷ d ∷ cs) more unbroken some =
    let (line, others, e, long) = goes_on (d ∷ cs) more unbroken.1 (λ none. let wrong : ⊥ = cc in wrong) in
    (c ∷ line, others, begins c (d ∷ (cs ++ more)) unbroken.0 ∙ ap (begin_with c) e, omega (arith, long))

unbroken_both : (xs ys : List ℕ) → IsUnbroken xs → IsUnbroken ys → IsUnbroken (xs ++ ys)
unbroken_both [] ys one two = two
unbroken_both (x ∷ xs) ys one two = (one.0, unbroken_both xs ys one.1 two)

-- ---- what was read

pub read_none : (world : WorldValue) → HasRead [] [] (record { world = world; asked = [] })
read_none world = record { lines = []; cut = λ more. refl; unbroken = tt; requests_are = tt }

-- the lines, where a further one ends
cut_line : (bytes rest piece more : List ℕ) (lines : List (List ℕ)) → ((more : List ℕ) → lines_of (bytes ++ more) ≡ lines ++ lines_of (rest ++ more))
    → IsUnbroken rest → IsUnbroken piece → lines_of (bytes ++ (piece ++ 10 ∷ more)) ≡ lines ++ (rest ++ piece) ∷ lines_of more
cut_line bytes rest piece more lines cut one two =
    cut (piece ++ 10 ∷ more) ∙ ap (λ it. lines ++ lines_of it) (sym (append_assoc rest piece (10 ∷ more)))
    ∙ ap (λ it. lines ++ it) (ended (rest ++ piece) more (unbroken_both rest piece one two))

pub read_line : (bytes rest piece : List ℕ) (requests : RequestsValue) (asked : AskedValue) → HasRead bytes rest requests → IsUnbroken piece
    → IsRequest requests.world (rest ++ piece) asked → HasRead (bytes ++ (piece ++ 10 ∷ [])) [] (with_asked requests asked)
read_line bytes rest piece requests asked has unbroken is = record {
  lines = has.lines ++ (rest ++ piece) ∷ [];
  cut = λ more.
      ap lines_of (append_assoc bytes (piece ++ 10 ∷ []) more ∙ ap (λ it. bytes ++ it) (append_assoc piece (10 ∷ []) more))
      ∙ cut_line bytes rest piece more has.lines has.cut has.unbroken unbroken ∙ sym (append_assoc has.lines ((rest ++ piece) ∷ []) (lines_of more));
  unbroken = tt;
  requests_are = all_zipped_more (IsRequest requests.world) has.lines requests.asked (rest ++ piece) asked has.requests_are is;
}

pub read_tail : (bytes rest tail : List ℕ) (requests : RequestsValue) → HasRead bytes rest requests → IsUnbroken tail → HasRead (bytes ++ tail) (rest ++ tail) requests
read_tail bytes rest tail requests has unbroken = record {
  lines = has.lines;
  cut = λ more.
      ap lines_of (append_assoc bytes tail more) ∙ has.cut (tail ++ more) ∙ ap (λ it. has.lines ++ lines_of it) (sym (append_assoc rest tail more));
  unbroken = unbroken_both rest tail has.unbroken unbroken;
  requests_are = has.requests_are;
}

-- ---- faults

pub at_seam : {X : Type 0} (xs : List X) (x : X) (ys : List X) (n : ℕ) → n ≡ length xs → slice_get (xs ++ x ∷ ys) n ≡ Some x
at_seam [] x ys zero e = refl
at_seam [] x ys (suc n) e = absurd (omega (arith, e))
at_seam (z ∷ xs) x ys zero e = absurd (omega (arith, e))
at_seam (z ∷ xs) x ys (suc n) e = at_seam xs x ys n (omega (arith, e))

first_faulty : (requests : RequestsValue) (lines : List (List ℕ)) (line : List ℕ) (others all : List (List ℕ)) (faulty : FaultyLine) → AreRequests lines requests
    → faulty.line ≡ length requests.asked → faulty.line ≤ 16777216 → AreSmall requests.asked → IsLineFault requests line faulty.fault → all ≡ lines ++ line ∷ others
    → IsFirstFaulty requests.world all faulty
first_faulty requests lines line others all faulty are number few small is same =
    let count : faulty.line ≡ length lines = number ∙ AllZip-long (IsRequest requests.world) lines requests.asked are in
    let before : take faulty.line all ≡ lines = ap (λ n. take n all) count ∙ ap (take (length lines)) same ∙ take-append_seam lines (line ∷ others) in
    record {
      line = line;
      before = requests.asked;
      at = ap (λ them. slice_get them faulty.line) same ∙ at_seam lines line others faulty.line count;
      read = record {
        requests_are = subst (λ them. AreRequests them requests) (sym before) are;
        few = omega (arith, few, number);
        small = small;
      };
      is = is;
    }

pub fault_of_line : (bytes rest piece more : List ℕ) (requests : RequestsValue) (fault : AskFault) → HasRead bytes rest requests → IsUnbroken piece
    → IsFaultOf requests (rest ++ piece) fault → IsFileFault requests.world (bytes ++ (piece ++ 10 ∷ more)) fault
fault_of_line bytes rest piece more requests Read has unbroken is = tt
fault_of_line bytes rest piece more requests (Line faulty) has unbroken is =
    first_faulty requests has.lines (rest ++ piece) (lines_of more) (lines_of (bytes ++ (piece ++ 10 ∷ more))) faulty has.requests_are is.0 is.1 is.2 is.3
    (cut_line bytes rest piece more has.lines has.cut has.unbroken unbroken)
fault_of_line bytes rest piece more requests OutOfMemory has unbroken is = tt

-- the lines, where the last one does not end
last_cut : (bytes rest : List ℕ) (lines : List (List ℕ)) → ((more : List ℕ) → lines_of (bytes ++ more) ≡ lines ++ lines_of (rest ++ more)) → IsUnbroken rest
    → rest ≢ [] → lines_of bytes ≡ lines ++ rest ∷ []
last_cut bytes rest lines cut unbroken some =
    ap lines_of (sym (append-nil bytes)) ∙ cut [] ∙ ap (λ it. lines ++ lines_of it) (append-nil rest) ∙ ap (λ it. lines ++ it) (last rest unbroken some)

pub fault_of_last : (bytes rest : List ℕ) (requests : RequestsValue) (fault : AskFault) → HasRead bytes rest requests → rest ≢ [] → IsFaultOf requests rest fault
    → IsFileFault requests.world bytes fault
fault_of_last bytes rest requests Read has some is = tt
fault_of_last bytes rest requests (Line faulty) has some is =
    first_faulty requests has.lines rest [] (lines_of bytes) faulty has.requests_are is.0 is.1 is.2 is.3 (last_cut bytes rest has.lines has.cut has.unbroken some)
fault_of_last bytes rest requests OutOfMemory has some is = tt

pub fault_of_long : (bytes rest more : List ℕ) (requests : RequestsValue) (faulty : FaultyLine) → HasRead bytes rest requests → ¬ IsShort rest
    → faulty.line ≡ length requests.asked → faulty.line ≤ 16777216 → AreSmall requests.asked → ((line : List ℕ) → ¬ IsShort line → IsLineFault requests line faulty.fault)
    → IsFirstFaulty requests.world (lines_of (bytes ++ more)) faulty
fault_of_long bytes rest more requests faulty has long number few small is =
    let some : rest ≢ [] = λ none. long (let empty = ap length none in omega (arith, empty)) in
    let (line, others, e, longer) = goes_on rest more has.unbroken some in
    first_faulty requests has.lines line others (lines_of (bytes ++ more)) faulty has.requests_are number few small (is line (λ short. long (omega (arith, short, longer))))
    (has.cut more ∙ ap (λ it. has.lines ++ it) e)

-- ---- the end

pub end_empty : (bytes : List ℕ) (requests : RequestsValue) → HasRead bytes [] requests → AreRequests (lines_of bytes) requests
end_empty bytes requests has =
    let all : lines_of bytes ≡ has.lines = ap lines_of (sym (append-nil bytes)) ∙ has.cut [] ∙ append-nil has.lines in
    subst (λ them. AreRequests them requests) (sym all) has.requests_are

pub end_last : (bytes rest : List ℕ) (requests : RequestsValue) (asked : AskedValue) → HasRead bytes rest requests → rest ≢ [] → IsRequest requests.world rest asked
    → AreRequests (lines_of bytes) (with_asked requests asked)
end_last bytes rest requests asked has some is =
    subst (λ them. AreRequests them (with_asked requests asked)) (sym (last_cut bytes rest has.lines has.cut has.unbroken some))
    (all_zipped_more (IsRequest requests.world) has.lines requests.asked rest asked has.requests_are is)

-- ---- blocks

-- what was read, what is left of a block, and what comes later
pub block_and_more : (bytes done left block more : List ℕ) → block ≡ done ++ left → (bytes ++ done) ++ (left ++ more) ≡ (bytes ++ block) ++ more
block_and_more bytes done left block more is =
    sym (append_assoc (bytes ++ done) left more) ∙ ap (λ it. it ++ more) (append_assoc bytes done left ∙ ap (λ it. bytes ++ it) (sym is))

pub block_read : (bytes done left block : List ℕ) → block ≡ done ++ left → (bytes ++ done) ++ left ≡ bytes ++ block
block_read bytes done left block is = append_assoc bytes done left ∙ ap (λ it. bytes ++ it) (sym is)

pub line_and_more : (line behind more : List ℕ) → line ++ 10 ∷ (behind ++ more) ≡ (line ++ 10 ∷ behind) ++ more
line_and_more line behind more = sym (append_assoc line (10 ∷ behind) more)

pub block_less : (done line behind left block : List ℕ) → block ≡ done ++ left → left ≡ line ++ 10 ∷ behind → block ≡ (done ++ (line ++ 10 ∷ [])) ++ behind
block_less done line behind left block is cut =
    is ∙ ap (λ it. done ++ it) (cut ∙ sym (append_assoc line (10 ∷ []) behind)) ∙ sym (append_assoc done (line ++ 10 ∷ []) behind)

-- what holds of the bytes that were read and whatever comes behind them holds of those that a reader had
pub of_consumed : (old new : Option (List ℕ)) (bytes : List ℕ) (P : List ℕ → Type 0) → Consumes old new bytes → ((more : List ℕ) → P (bytes ++ more)) → OfBytes old P
of_consumed None new bytes P lost all = tt
of_consumed (Some xs) None bytes P lost all = absurd lost
of_consumed (Some xs) (Some ys) bytes P lost all = subst P (sym lost) (all ys)

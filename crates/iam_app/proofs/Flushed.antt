-- A text that was written, and flushed behind its last byte.
use Rattle.std.proofs.Common.{◌≤◌, ℕ, List, Option, Result, Ok, Err, OnOk, OnErr, length, sym, subst, arith}
use Rattle.std.proofs.KnownBytes.{Appends-kept}
use Rattle.std.proofs.lemmas.List.{take_all}
use Rattle.std.specs.Io.KnownBytes.{Appends, Keeps}
use Rattle.iam_report.specs.Streams.{AppendsBeginning}

-- what holds whatever the outcome
at_ok : {T E P : Type 0} (r : Result T E) → P → OnOk r P
at_ok (Ok x) p = p
at_ok (Err e) p = tt

at_err : {T E P : Type 0} (r : Result T E) → P → OnErr r P
at_err (Ok x) p = tt
at_err (Err e) p = p

-- a whole text is a beginning of it
beginning : (a b : Option (List ℕ)) (text : List ℕ) → Appends a b text → AppendsBeginning a b text
beginning a b text whole =
    let all : length text ≤ length text = omega arith in
    (length text, all, subst (Appends a b) (sym (take_all (length text) text all)) whole)

-- whether the flush fails or not
pub flushed : {T E : Type 0} (r : Result T E) (a b c : Option (List ℕ)) (text : List ℕ) → Appends a b text → Keeps b c → OnOk r (Appends a c text)
flushed r a b c text written kept = at_ok r (Appends-kept a b c text written kept)

pub unflushed : {T E : Type 0} (r : Result T E) (a b c : Option (List ℕ)) (text : List ℕ) → Appends a b text → Keeps b c → OnErr r (AppendsBeginning a c text)
unflushed r a b c text written kept = at_err r (beginning a c text (Appends-kept a b c text written kept))

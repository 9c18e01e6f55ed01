use Rattle.std.proofs.Common.{◌++◌, [], List, map, ap, refl, sym, subst, append_assoc}
use Rattle.std.proofs.lemmas.List.{append-nil}
use Rattle.iam_decision.specs.Code.Scan.{placed_value}
use Rattle.iam_decision.specs.Living.{AreLiving, living_value}
use Rattle.iam_decision.specs.Matched.{Placed}
use Rattle.iam_living.specs.Listing.{ListingValue, statements_of}
use Rattle.iam_living.specs.Word.{AreBits, TakesBits}
use Rattle.iam_living.proofs.listing.Listing.living.Goals as goal

pub returns : goal.returns
returns c = λ access asks are others.
    let org : List Placed = map placed_value c.self.inside.org.statements in
    let own : List Placed = map placed_value c.self.inside.own.statements in
    let listed : List Placed = map placed_value c.args.between.now in
    let some = map living_value c.add_of_bits.new.living.items in
    let more = map living_value c.add_of_bits-2.new.living.items in
    let all = map living_value c.add_of_bits-3.new.living.items in
    let first : TakesBits c.args.requester.now org c.args.word (map living_value c.new-living.result.items) some c.in_ok-own.own =
    rw c.statements.ensures at c.in_ok-own.ensures in
    let second : TakesBits c.args.requester.now listed c.args.other some more c.in_ok-add_of_bits.field-0 = c.in_ok-add_of_bits.ensures in
    let third : TakesBits c.args.requester.now own c.in_ok-own.own more all c.in_ok-add_of_bits-2.field-0 =
    rw c.statements-2.ensures at c.in_ok-add_of_bits-2.ensures in
    let P : ListingValue → Type 0 = λ v. AreBits access (statements_of v) c.args.word → AreLiving access (v.org ++ (listed ++ v.own)) all in
    let Q : List Placed → Type 0 = λ z. AreBits access z c.in_ok-own.own in
    let O : List Placed → Type 0 = λ z. AreBits access z c.args.other in
    let A : List Placed → Type 0 = λ z. AreLiving access z all in
    subst P c.self.view_is
    (λ bits.
    let (lives, left) = first access [] own asks bits ([], refl, ap (map living_value) c.new-living.ensures.items) in
    let (further, _) = second access org [] asks (subst O (sym (append-nil listed)) others) lives in
    subst A (append_assoc org listed own) (third access (org ++ listed) [] asks (subst Q (sym (append-nil own)) left) further).0)
    are

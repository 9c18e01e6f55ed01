-- Bytes in which the front of a row is made.
use Rattle.std.proofs.Common.{◌≡◌, ◌+◌, ◌-◌, ◌/◌, ◌%◌, ◌^◌, ◌<◌, ◌≤◌, ◌⊎◌, inl, inr, ℕ, zero, suc, List, [], ◌∷◌, ◌++◌, refl, get_or, set, decimal, append-nil, drop, length, take, sym, ap, ◌∙◌, arith, append_assoc, length-append, subst, take-add, take-take}
use Rattle.std.proofs.Math.Seq.{drop-append_seam, set-append_seam, take-append-add, take-append_seam}
use Rattle.std.proofs.lemmas.Fmt.{decimal_digit, decimal_nonempty, decimal_step}
use Rattle.std.proofs.lemmas.List.{drop-drop, drop-set-add, drop-take, get_or-drop, length-drop, length-set, length-take-le, same_from_push, take-append-drop, take-set-le, take_more}
use Rattle.iam_report.specs.Code.Front.{FrontValue, IsOrdered, IsPut, between, front_of_bytes}

-- the texts behind the room for a number stand there as one
pub whole_text : (bytes : List ℕ) (start stop end : ℕ) → IsOrdered start stop end
    → take (end - 20) (drop 20 bytes) ≡ between bytes 20 start ++ (between bytes start stop ++ between bytes stop end)
whole_text bytes start stop end order =
    let first = start - 20 in
    let second = stop - start in
    let third = end - stop in
    let count : end - 20 ≡ first + (second + third) = omega (arith, order.least, order.number, order.behind) in
    let there : 20 + first ≡ start = omega (arith, order.least) in
    let then : start + second ≡ stop = omega (arith, order.number) in
    ap (λ n. take n (drop 20 bytes)) count ∙ take-add first (second + third) (drop 20 bytes)
    ∙ ap (λ l. take first (drop 20 bytes) ++ take (second + third) l) (drop-drop first 20 bytes ∙ ap (λ n. drop n bytes) there)
    ∙ ap (λ l. take first (drop 20 bytes) ++ l) (take-add second third (drop start bytes))
    ∙ ap (λ l. take first (drop 20 bytes) ++ (take second (drop start bytes) ++ take third l)) (drop-drop second start bytes ∙ ap (λ n. drop n bytes) then)

-- fronts with the same parts
same_parts : {a b c x y z : List ℕ} → a ≡ x → b ≡ y → c ≡ z
    → ◌≡◌ {A = FrontValue} (record { before = a; number = b; behind = c }) (record { before = x; number = y; behind = z })
same_parts {b = b} {c = c} {x = x} {y = y} e f g =
    ap (λ t. record { before = t; number = b; behind = c }) e ∙ ap (λ t. record { before = x; number = t; behind = c }) f
    ∙ ap (λ t. record { before = x; number = y; behind = t }) g

-- another number of as many digits
pub renumbered : (old new number : List ℕ) (from start stop end : ℕ) → IsOrdered start stop end → from ≡ start → from + length number ≡ stop
    → drop from new ≡ number ++ drop stop old → take from new ≡ take from old
    → front_of_bytes new start stop end ≡ record (front_of_bytes old start stop end) { number = number }
renumbered old new number from start stop end order is ends puts keeps =
    let count : start + length number ≡ stop = ap (λ n. n + length number) (sym is) ∙ ends in
    let written : drop start new ≡ number ++ drop stop old = ap (λ n. drop n new) (sym is) ∙ puts in
    let before : take start new ≡ take start old = ap (λ n. take n new) (sym is) ∙ keeps ∙ ap (λ n. take n old) is in
    let first = start - 20 in
    let there : 20 + first ≡ start = omega (arith, order.least) in
    let many : stop - start ≡ length number = omega (arith, count) in
    let front : take first (drop 20 new) ≡ take first (drop 20 old) =
    sym (drop-take 20 first new) ∙ ap (λ n. drop 20 (take n new)) there ∙ ap (drop 20) before ∙ ap (λ n. drop 20 (take n old)) (sym there) ∙ drop-take 20 first old in
    let mid : take (stop - start) (drop start new) ≡ number =
    ap (λ n. take n (drop start new)) many ∙ ap (take (length number)) written ∙ take-append_seam number (drop stop old) in
    let back : drop stop new ≡ drop stop old =
    ap (λ n. drop n new) (sym count) ∙ sym (drop-drop (length number) start new) ∙ ap (drop (length number)) written ∙ drop-append_seam number (drop stop old) in
    same_parts front mid (ap (take (end - stop)) back)

-- a text behind another
text_at : (bytes x y z : List ℕ) (end : ℕ) → take end bytes ≡ x ++ (y ++ z) → length x + length y ≤ end → take (length y) (drop (length x) bytes) ≡ y
text_at bytes x y z end e few =
    sym (drop-take (length x) (length y) bytes)
    ∙ ap (drop (length x)) (sym (take-take (length x + length y) end bytes few) ∙ ap (take (length x + length y)) e ∙ take-append-add x (y ++ z) (length y)
    ∙ ap (λ l. x ++ l) (take-append_seam y z))
    ∙ drop-append_seam x y

-- texts put one behind the other
pub filled : (old first second new before number behind : List ℕ) (start stop end : ℕ) → length old ≡ 1024 → IsPut old first 20 before start
    → IsPut first second start number stop → IsPut second new stop behind end
    → front_of_bytes new start stop end ≡ record { before = before; number = number; behind = behind }
filled old first second new before number behind start stop end long one two three =
    let head = take 20 old in
    let head_is : length head ≡ 20 = length-take-le 20 old (omega (arith, long)) in
    let all : take end new ≡ ((head ++ before) ++ number) ++ behind =
    three.bytes ∙ ap (λ l. l ++ behind) (two.bytes ∙ ap (λ l. l ++ number) one.bytes) in
    let x = head ++ before in
    let y = x ++ number in
    let x_is : length x ≡ start = omega (arith, length-append head before, head_is, one.end_is) in
    let y_is : length y ≡ stop = omega (arith, length-append x number, x_is, two.end_is) in
    let first_is : start - 20 ≡ length before = omega (arith, one.end_is) in
    let second_is : stop - start ≡ length number = omega (arith, two.end_is) in
    let third_is : end - stop ≡ length behind = omega (arith, three.end_is) in
    let front : take (start - 20) (drop 20 new) ≡ before =
    ap (λ n. take n (drop 20 new)) first_is ∙ ap (λ n. take (length before) (drop n new)) (sym head_is)
    ∙ text_at new head before (number ++ behind) end (all ∙ append_assoc x number behind ∙ append_assoc head before (number ++ behind))
    (omega (arith, head_is, one.end_is, two.end_is, three.end_is)) in
    let mid : take (stop - start) (drop start new) ≡ number =
    ap (λ n. take n (drop start new)) second_is ∙ ap (λ n. take (length number) (drop n new)) (sym x_is)
    ∙ text_at new x number behind end (all ∙ append_assoc x number behind) (omega (arith, x_is, two.end_is, three.end_is)) in
    let back : take (end - stop) (drop stop new) ≡ behind =
    ap (λ n. take n (drop stop new)) third_is ∙ ap (λ n. take (length behind) (drop n new)) (sym y_is)
    ∙ text_at new y behind [] end (all ∙ ap (λ l. y ++ l) (sym (append-nil behind))) (omega (arith, y_is, three.end_is)) in
    same_parts front mid back

-- another text behind the number
pub refilled : (old new behind : List ℕ) (start stop before end : ℕ) → length old ≡ 1024 → IsOrdered start stop before → IsPut old new stop behind end
    → front_of_bytes new start stop end ≡ record (front_of_bytes old start stop before) { behind = behind }
refilled old new behind start stop before end long order put =
    let head = take stop old in
    let first = start - 20 in
    let second = stop - start in
    let head_is : length head ≡ stop = length-take-le stop old (omega (arith, long, order.behind, order.most)) in
    let there : 20 + first ≡ start = omega (arith, order.least) in
    let then : start + second ≡ stop = omega (arith, order.number) in
    let below : stop ≤ end = omega (arith, put.end_is) in
    let same : take stop new ≡ head =
    sym (take-take stop end new below) ∙ ap (take stop) put.bytes ∙ ap (λ n. take n (head ++ behind)) (sym head_is) ∙ take-append_seam head behind in
    let sooner : take start new ≡ take start old =
    sym (take-take start stop new order.number) ∙ ap (take start) same ∙ take-take start stop old order.number in
    let front : take first (drop 20 new) ≡ take first (drop 20 old) =
    sym (drop-take 20 first new) ∙ ap (λ n. drop 20 (take n new)) there ∙ ap (drop 20) sooner ∙ ap (λ n. drop 20 (take n old)) (sym there) ∙ drop-take 20 first old in
    let mid : take second (drop start new) ≡ take second (drop start old) =
    sym (drop-take start second new) ∙ ap (λ n. drop start (take n new)) then ∙ ap (drop start) same ∙ ap (λ n. drop start (take n old)) (sym then) ∙ drop-take start second old in
    let count : end - stop ≡ length behind = omega (arith, put.end_is) in
    let back : take (end - stop) (drop stop new) ≡ behind =
    ap (λ n. take n (drop stop new)) count ∙ ap (λ n. take (length behind) (drop n new)) (sym head_is)
    ∙ text_at new head behind [] end (put.bytes ∙ ap (λ l. head ++ l) (sym (append-nil behind))) (omega (arith, head_is, put.end_is)) in
    same_parts front mid back

-- below a number, or not
sized : (n m : ℕ) → (n < m) ⊎ (m ≤ n)
sized n zero = inr (omega arith)
sized zero (suc m) = inl (omega arith)
sized (suc n) (suc m) = one_more n m (sized n m)
  where
    one_more : (n m : ℕ) → (n < m) ⊎ (m ≤ n) → (suc n < suc m) ⊎ (suc m ≤ suc n)
    one_more n m (inl below) = inl (omega arith)
    one_more n m (inr above) = inr (omega arith)

-- a number whose last digit is no 9, and the next one
counted_digits : (n : ℕ) (ds : List ℕ) (d : ℕ) → n + 1 < 2 ^ 64 → decimal n ≡ ds ++ (d ∷ []) → d < 57 → decimal (n + 1) ≡ ds ++ ((d + 1) ∷ [])
counted_digits n ds d small is nine = by_size n ds d small is nine (sized n 10)
  where
    by_size : (n : ℕ) (ds : List ℕ) (d : ℕ) → n + 1 < 2 ^ 64 → decimal n ≡ ds ++ (d ∷ []) → d < 57 → (n < 10) ⊎ (10 ≤ n)
        → decimal (n + 1) ≡ ds ++ ((d + 1) ∷ [])
    by_size n ds d small is nine (inl one) =
        let same = same_from_push ds [] d (48 + n) (sym is ∙ decimal_digit n one) in
        let none : ds ≡ [] = same.0 in
        let digit : d ≡ 48 + n = same.1 in
        let next : 48 + (n + 1) ≡ d + 1 = omega (arith, digit) in
        decimal_digit (n + 1) (omega (arith, digit)) ∙ ap (λ (c : ℕ). c ∷ []) next ∙ ap (λ l. l ++ ((d + 1) ∷ [])) (sym none)
    by_size n ds d small is nine (inr more) =
        let same = same_from_push ds (decimal (n / 10)) d (48 + n % 10) (sym is ∙ decimal_step n more (omega arith)) in
        let digit : d ≡ 48 + n % 10 = same.1 in
        let tens : (n + 1) / 10 ≡ n / 10 = omega (arith, digit) in
        let last : 48 + (n + 1) % 10 ≡ d + 1 = omega (arith, digit) in
        decimal_step (n + 1) (omega arith) small ∙ ap (λ m. decimal m ++ ((48 + (n + 1) % 10) ∷ [])) tens
        ∙ ap (λ l. l ++ ((48 + (n + 1) % 10) ∷ [])) (sym same.0) ∙ ap (λ c. ds ++ (c ∷ [])) last

-- a number whose last digit is a 9 and the one before it is none, and the next one
carried_digits : (n : ℕ) (ds : List ℕ) (d : ℕ) → n + 1 < 2 ^ 64 → decimal n ≡ ds ++ (d ∷ 57 ∷ []) → d < 57
    → decimal (n + 1) ≡ (ds ++ ((d + 1) ∷ [])) ++ (48 ∷ [])
carried_digits n ds d small is nine = by_size n ds d small is nine (sized n 10)
  where
    by_size : (n : ℕ) (ds : List ℕ) (d : ℕ) → n + 1 < 2 ^ 64 → decimal n ≡ ds ++ (d ∷ 57 ∷ []) → d < 57 → (n < 10) ⊎ (10 ≤ n)
        → decimal (n + 1) ≡ (ds ++ ((d + 1) ∷ [])) ++ (48 ∷ [])
    by_size n ds d small is nine (inl one) =
        absurd (omega (arith, ap length (sym is ∙ decimal_digit n one), length-append ds (d ∷ 57 ∷ [])))
    by_size n ds d small is nine (inr more) =
        let same = same_from_push (ds ++ (d ∷ [])) (decimal (n / 10)) 57 (48 + n % 10)
        (append_assoc ds (d ∷ []) (57 ∷ []) ∙ sym is ∙ decimal_step n more (omega arith)) in
        let digit : 57 ≡ 48 + n % 10 = same.1 in
        let tens : (n + 1) / 10 ≡ n / 10 + 1 = omega (arith, digit) in
        let last : 48 + (n + 1) % 10 ≡ 48 = omega (arith, digit) in
        decimal_step (n + 1) (omega arith) small ∙ ap (λ m. decimal m ++ ((48 + (n + 1) % 10) ∷ [])) tens
        ∙ ap (λ l. l ++ ((48 + (n + 1) % 10) ∷ [])) (counted_digits (n / 10) ds d (omega (arith, small)) (sym same.0) nine)
        ∙ ap (λ c. (ds ++ ((d + 1) ∷ [])) ++ (c ∷ [])) last

-- another digit in the number
set_digit : (old xs ys : List ℕ) (c d start stop end i : ℕ) → IsOrdered start stop end → length old ≡ 1024 → between old start stop ≡ xs ++ (c ∷ ys)
    → i ≡ start + length xs → front_of_bytes (set old i d) start stop end ≡ record (front_of_bytes old start stop end) { number = xs ++ (d ∷ ys) }
set_digit old xs ys c d start stop end i order long is at =
    let left = drop start old in
    let many : length (between old start stop) ≡ stop - start =
    length-take-le (stop - start) left (omega (arith, length-drop start old, long, order.behind, order.most)) in
    let then : start + (stop - start) ≡ stop = omega (arith, order.number) in
    let whole : left ≡ xs ++ (c ∷ (ys ++ drop stop old)) =
    sym (take-append-drop (stop - start) left) ∙ ap (λ l. l ++ drop (stop - start) left) is ∙ append_assoc xs (c ∷ ys) (drop (stop - start) left)
    ∙ ap (λ l. xs ++ (c ∷ (ys ++ l))) (drop-drop (stop - start) start old ∙ ap (λ n. drop n old) then) in
    let puts : drop start (set old i d) ≡ (xs ++ (d ∷ ys)) ++ drop stop old =
    ap (λ m. drop start (set old m d)) at ∙ drop-set-add start old (length xs) d ∙ ap (λ l. set l (length xs) d) whole
    ∙ set-append_seam xs c (ys ++ drop stop old) d ∙ sym (append_assoc xs (d ∷ ys) (drop stop old)) in
    let ends : start + length (xs ++ (d ∷ ys)) ≡ stop =
    omega (arith, length-append xs (d ∷ ys), length-append xs (c ∷ ys), ap length is, many, order.number) in
    renumbered old (set old i d) (xs ++ (d ∷ ys)) start start stop end order refl ends puts (take-set-le start old i d (omega (arith, at)))

-- the digits of a number but the last, and the last
last_digit : (old : List ℕ) (start end k : ℕ) → IsOrdered start (start + (k + 1)) end → length old ≡ 1024
    → between old start (start + (k + 1)) ≡ take k (drop start old) ++ (get_or old (start + k) 0 ∷ [])
last_digit old start end k order long =
    let left = drop start old in
    let count : start + (k + 1) - start ≡ k + 1 = omega arith in
    ap (λ m. take m left) count ∙ take_more left k 0 (omega (arith, length-drop start old, long, order.behind, order.most))
    ∙ ap (λ c. take k left ++ (c ∷ [])) (get_or-drop start old k 0)

-- the number counted up in place
pub counted : (old : List ℕ) (digit start stop end n : ℕ) → IsOrdered start stop end → length old ≡ 1024 → digit ≡ get_or old (stop - 1) 0 → digit < 57
    → n + 1 < 2 ^ 64 → between old start stop ≡ decimal n
    → front_of_bytes (set old (stop - 1) (digit + 1)) start stop end ≡ record (front_of_bytes old start stop end) { number = decimal (n + 1) }
counted old digit start stop end n order long read nine small is =
    let left = drop start old in
    let many : length (between old start stop) ≡ stop - start =
    length-take-le (stop - start) left (omega (arith, length-drop start old, long, order.behind, order.most)) in
    let some : 0 < stop - start = omega (arith, sym many ∙ ap length is, decimal_nonempty n (omega (arith, small))) in
    let k = stop - 1 - start in
    let ends : start + (k + 1) ≡ stop = omega (arith, some) in
    let at : start + k ≡ stop - 1 = omega (arith, some) in
    let S : ℕ → Type 0 = λ m. IsOrdered start m end in
    let B : ℕ → Type 0 = λ m. between old start m ≡ take k left ++ (get_or old (start + k) 0 ∷ []) in
    let split : between old start stop ≡ take k left ++ (digit ∷ []) =
    subst B ends (last_digit old start end k (subst S (sym ends) order) long)
    ∙ ap (λ c. take k left ++ (c ∷ [])) (ap (λ m. get_or old m 0) at ∙ sym read) in
    let count : length (take k left) ≡ k = length-take-le k left (omega (arith, length-drop start old, long, order.behind, order.most, some)) in
    set_digit old (take k left) [] digit (digit + 1) start stop end (stop - 1) order long split (omega (arith, count, some))
    ∙ ap (λ m. record (front_of_bytes old start stop end) { number = m }) (sym (counted_digits n (take k left) digit small (sym is ∙ split) nine))

-- the same with a carry
pub carried : (old : List ℕ) (tens start stop end n : ℕ) → IsOrdered start stop end → length old ≡ 1024 → 2 ≤ stop - start
    → tens ≡ get_or old (stop - 2) 0 → tens < 57 → get_or old (stop - 1) 0 ≡ 57 → n + 1 < 2 ^ 64 → between old start stop ≡ decimal n
    → front_of_bytes (set (set old (stop - 2) (tens + 1)) (stop - 1) 48) start stop end ≡ record (front_of_bytes old start stop end) { number = decimal (n + 1) }
carried old tens start stop end n order long two read nine last small is =
    let left = drop start old in
    let k = stop - 2 - start in
    let ds = take k left in
    let ends : start + (k + 1 + 1) ≡ stop = omega (arith, two) in
    let at : start + (k + 1) ≡ stop - 1 = omega (arith, two) in
    let before : start + k ≡ stop - 2 = omega (arith, two) in
    let S : ℕ → Type 0 = λ m. IsOrdered start m end in
    let B : ℕ → Type 0 = λ m. between old start m ≡ take (k + 1) left ++ (get_or old (start + (k + 1)) 0 ∷ []) in
    let more : take (k + 1) left ≡ ds ++ (tens ∷ []) =
    take_more left k 0 (omega (arith, length-drop start old, long, order.behind, order.most, two))
    ∙ ap (λ c. ds ++ (c ∷ [])) (get_or-drop start old k 0 ∙ ap (λ m. get_or old m 0) before ∙ sym read) in
    let split : between old start stop ≡ ds ++ (tens ∷ 57 ∷ []) =
    subst B ends (last_digit old start end (k + 1) (subst S (sym ends) order) long)
    ∙ ap (λ c. take (k + 1) left ++ (c ∷ [])) (ap (λ m. get_or old m 0) at ∙ last) ∙ ap (λ l. l ++ (57 ∷ [])) more ∙ append_assoc ds (tens ∷ []) (57 ∷ []) in
    let count : length ds ≡ k = length-take-le k left (omega (arith, length-drop start old, long, order.behind, order.most, two)) in
    let mid = set old (stop - 2) (tens + 1) in
    let first : front_of_bytes mid start stop end ≡ record (front_of_bytes old start stop end) { number = ds ++ ((tens + 1) ∷ 57 ∷ []) } =
    set_digit old ds (57 ∷ []) tens (tens + 1) start stop end (stop - 2) order long split (omega (arith, count, before)) in
    let now : between mid start stop ≡ (ds ++ ((tens + 1) ∷ [])) ++ (57 ∷ []) =
    ap (λ (v : FrontValue). v.number) first ∙ sym (append_assoc ds ((tens + 1) ∷ []) (57 ∷ [])) in
    let place : stop - 1 ≡ start + length (ds ++ ((tens + 1) ∷ [])) = omega (arith, length-append ds ((tens + 1) ∷ []), count, at) in
    set_digit mid (ds ++ ((tens + 1) ∷ [])) [] 57 48 start stop end (stop - 1) order (length-set old (stop - 2) (tens + 1) ∙ long) now place
    ∙ ap (λ (v : FrontValue). record v { number = (ds ++ ((tens + 1) ∷ [])) ++ (48 ∷ []) }) first
    ∙ ap (λ m. record (front_of_bytes old start stop end) { number = m }) (sym (carried_digits n ds tens small (sym is ∙ split) nine))

-- how many bytes the texts have
pub whole_len : (bytes : List ℕ) (start stop end : ℕ) → length bytes ≡ 1024 → IsOrdered start stop end
    → end - 20 ≡ length (between bytes 20 start ++ (between bytes start stop ++ between bytes stop end))
whole_len bytes start stop end long order =
    sym (length-take-le (end - 20) (drop 20 bytes) (omega (arith, length-drop 20 bytes, long, order.most))) ∙ ap length (whole_text bytes start stop end order)

-- Requesters that are told apart by what is told of them.
use Rattle.std.proofs.Common.{◌≡◌, ◌∙◌, ◌++◌, ℕ, List, None, Option, Some, ap, codes, refl, subst, sym}
use Rattle.std.proofs.lemmas.List.{append_cancel_left}
use Rattle.iam_match.specs.Requester.{RequesterValue, iam_arn, last_segment, requester_arn, requester_name, session_arn, username_of}
use Rattle.iam_open_changes.specs.Code.Same.{AreOfOneKind}

abbrev requester : List ℕ → List ℕ → List ℕ → Option (List ℕ) → RequesterValue
requester partition account path session = record { partition = partition; account = account; path = path; session = session }

-- what stands behind the account
behind : (r : RequesterValue) (s : RequesterValue) (a b : List ℕ) → r.partition ≡ s.partition → r.account ≡ s.account → iam_arn r a ≡ iam_arn s b → a ≡ b
behind r s a b partition account same =
    let whole : iam_arn r a ≡ iam_arn r b =
    same
    ∙ sym (ap (λ x. codes "arn:" ++ (x ++ (codes ":iam::" ++ (r.account ++ (codes ":" ++ b))))) partition
    ∙ ap (λ x. codes "arn:" ++ (s.partition ++ (codes ":iam::" ++ (x ++ (codes ":" ++ b))))) account) in
    append_cancel_left (codes ":") a b
    (append_cancel_left r.account (codes ":" ++ a) (codes ":" ++ b)
    (append_cancel_left (codes ":iam::") (r.account ++ (codes ":" ++ a)) (r.account ++ (codes ":" ++ b))
    (append_cancel_left r.partition (codes ":iam::" ++ (r.account ++ (codes ":" ++ a))) (codes ":iam::" ++ (r.account ++ (codes ":" ++ b)))
    (append_cancel_left (codes "arn:") (r.partition ++ (codes ":iam::" ++ (r.account ++ (codes ":" ++ a))))
    (r.partition ++ (codes ":iam::" ++ (r.account ++ (codes ":" ++ b)))) whole))))

-- the name of a session of one role
named : (r : RequesterValue) (a b : List ℕ) → session_arn r a ≡ session_arn r b → a ≡ b
named r a b same =
    let tail : List ℕ → List ℕ = λ x. last_segment r.path ++ (codes "/" ++ x) in
    let more : List ℕ → List ℕ = λ x. r.account ++ (codes ":assumed-role/" ++ tail x) in
    append_cancel_left (codes "/") a b
    (append_cancel_left (last_segment r.path) (codes "/" ++ a) (codes "/" ++ b)
    (append_cancel_left (codes ":assumed-role/") (tail a) (tail b)
    (append_cancel_left r.account (codes ":assumed-role/" ++ tail a) (codes ":assumed-role/" ++ tail b)
    (append_cancel_left (codes ":sts::") (more a) (more b)
    (append_cancel_left r.partition (codes ":sts::" ++ more a) (codes ":sts::" ++ more b)
    (append_cancel_left (codes "arn:") (r.partition ++ (codes ":sts::" ++ more a)) (r.partition ++ (codes ":sts::" ++ more b)) same))))))

same_parts : (p a path path' : List ℕ) (session session' : Option (List ℕ)) → requester_arn (requester p a path session) ≡ requester_arn (requester p a path' session')
    → requester_name (requester p a path session) ≡ requester_name (requester p a path' session')
    → AreOfOneKind (username_of (requester p a path session)) (username_of (requester p a path' session')) → requester p a path session ≡ requester p a path' session'
same_parts p a path path' None None arn name kind =
    ap (λ x. requester p a x None)
    (append_cancel_left (codes "user/") path path'
    (behind (requester p a path None) (requester p a path' None) (codes "user/" ++ path) (codes "user/" ++ path') refl refl arn))
same_parts p a path path' None (Some s') arn name kind = absurd kind
same_parts p a path path' (Some s) None arn name kind = absurd kind
same_parts p a path path' (Some s) (Some s') arn name kind =
    let paths : path ≡ path' =
    append_cancel_left (codes "role/") path path'
    (behind (requester p a path (Some s)) (requester p a path' (Some s')) (codes "role/" ++ path) (codes "role/" ++ path') refl refl arn) in
    let sessions : s ≡ s' = named (requester p a path' (Some s')) s s' (sym (ap (λ x. session_arn (requester p a x (Some s)) s) paths) ∙ name) in
    ap (λ x. requester p a x (Some s)) paths ∙ ap (λ x. requester p a path' (Some x)) sessions

pub same_requester : (one other : RequesterValue) → one.partition ≡ other.partition → one.account ≡ other.account
    → requester_arn one ≡ requester_arn other → requester_name one ≡ requester_name other
    → AreOfOneKind (username_of one) (username_of other) → one ≡ other
same_requester one other partition account arn name kind =
    let turned : one ≡ requester other.partition other.account one.path one.session =
    ap (λ x. requester x one.account one.path one.session) partition ∙ ap (λ x. requester other.partition x one.path one.session) account in
    turned
    ∙ same_parts other.partition other.account one.path other.path one.session other.session (sym (ap requester_arn turned) ∙ arn)
    (sym (ap requester_name turned) ∙ name)
    (subst (λ (x : RequesterValue). AreOfOneKind (username_of x) (username_of other)) turned kind)

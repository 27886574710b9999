-- What a repeat is, by its bounds.
use Rattle.std.proofs.Common.{◌≡◌, ℕ, ◌<◌, ◌≤◌, ◌⊎◌, inl, inr, Option, Some, None, List, refl, sym, ap, subst, ◌∙◌, arith}
use Rattle.std.specs.Prelude.{unwrap_or}
use Rattle.mine_model.specs.Limits.{most_times}
use Rattle.mine_model.specs.Tokens.{Token, name, sign, repeat, open_repeat}
use Rattle.mine_model.specs.Grammar.{IsRepeat}
use Rattle.mine_model.specs.Refusal.{IsBadRepeat, IsBeyondLimit}
use Rattle.patex_grammar.proofs.BoundLemmas.{repeat-bounds}
use Rattle.patex_parser.specs.declared.token.Mark.TheVariants.{Postfix}
use Rattle.patex_parser.specs.declared.token.Kind.TheVariants.{Mark, BadRepeat, BeyondLimit}
use Rattle.patex_parser.specs.Scanning.{IsSound, IsKind}
use Rattle.patex_parser.specs.Repeats.{IsCapped, IsCappedIf}

same-bounds : (between : List ℕ) (n l : ℕ) (m k : Option ℕ) → IsRepeat between n m → IsRepeat between l k → (n ≡ l) × (m ≡ k)
same-bounds between n l m k is is' =
    let p = repeat-bounds between n m is in
    let q = repeat-bounds between l k is' in
    (sym p.0 ∙ q.0, sym p.1 ∙ q.1)

some-same : (k l : ℕ) → Some k ≡ Some l → k ≡ l
some-same k l e = cc

some-none : (k : ℕ) → Some k ≡ None → ⊥
some-none k e = cc

beyond : (between : List ℕ) (n : ℕ) (m : Option ℕ) → IsRepeat between n m
    → (most_times < n) ⊎ ((k : ℕ) × (m ≡ Some k) × (most_times < k)) → IsKind (repeat between) BeyondLimit
beyond between n m is big = ((n, m, is, big), not_bad big)
  where
    not_bad : (most_times < n) ⊎ ((k : ℕ) × (m ≡ Some k) × (most_times < k)) → IsBadRepeat (repeat between) → ⊥
    not_bad big (inl none) = none n m is
    not_bad (inl big) (inr (least, most, is', within, less)) = let same = same-bounds between n least m (Some most) is is' in omega (arith, same.0)
    not_bad (inr (k, e, big)) (inr (least, most, is', within, less)) =
        let same = same-bounds between n least m (Some most) is is' in
        let upper : k ≡ most = some-same k most (sym e ∙ same.1) in omega arith

-- a bad repeat has no number beyond the limit
pub bad-not-beyond : (token : Token) → IsBadRepeat token → IsBeyondLimit token → ⊥
bad-not-beyond (name text) bad big = bad
bad-not-beyond (sign b) bad big = bad
bad-not-beyond (repeat between) bad (least, most, is, big) = let far = beyond between least most is big in far.1 bad
bad-not-beyond (open_repeat behind) bad big = big

sound-none : (between : List ℕ) (n : ℕ) → IsRepeat between n None → n ≤ most_times → IsSound (repeat between)
sound-none between n is within = (not_bad, not_beyond)
  where
    not_bad : IsBadRepeat (repeat between) → ⊥
    not_bad (inl none) = none n None is
    not_bad (inr (least, most, is', w, less)) = let same = same-bounds between n least None (Some most) is is' in some-none most (sym same.1)

    not_beyond : IsBeyondLimit (repeat between) → ⊥
    not_beyond (least, most, is', inl big) = let same = same-bounds between n least None most is is' in omega (arith, same.0)
    not_beyond (least, most, is', inr (k, e, big)) = let same = same-bounds between n least None most is is' in some-none k (sym e ∙ sym same.1)

sound-some : (between : List ℕ) (n m : ℕ) → IsRepeat between n (Some m) → n ≤ m → m ≤ most_times → IsSound (repeat between)
sound-some between n m is order within = (not_bad, not_beyond)
  where
    not_bad : IsBadRepeat (repeat between) → ⊥
    not_bad (inl none) = none n (Some m) is
    not_bad (inr (least, most, is', w, less)) =
        let same = same-bounds between n least (Some m) (Some most) is is' in
        let upper : m ≡ most = some-same m most same.1 in omega (arith, same.0)

    not_beyond : IsBeyondLimit (repeat between) → ⊥
    not_beyond (least, most, is', inl big) = let same = same-bounds between n least (Some m) most is is' in omega (arith, same.0)
    not_beyond (least, most, is', inr (k, e, big)) =
        let same = same-bounds between n least (Some m) most is is' in
        let upper : m ≡ k = some-same m k (same.1 ∙ e) in omega arith

upper-none : (least upper : ℕ) (most : Option ℕ) → most ≡ None → upper ≡ unwrap_or most least → upper ≡ least
upper-none least upper most e u = u ∙ ap (λ (o : Option ℕ). unwrap_or o least) e

upper-some : (least upper k : ℕ) (most : Option ℕ) → most ≡ Some k → upper ≡ unwrap_or most least → upper ≡ k
upper-some least upper k most e u = u ∙ ap (λ (o : Option ℕ). unwrap_or o least) e

pub judged-beyond : (between : List ℕ) (n least upper : ℕ) (m most : Option ℕ) → IsRepeat between n m → IsCapped n least → IsCappedIf m most
    → upper ≡ unwrap_or most least → (most_times < least) ⊎ (most_times < upper) → IsKind (repeat between) BeyondLimit
judged-beyond between n least upper None most is p q u (inl big) = beyond between n None is (inl (omega (arith, p)))
judged-beyond between n least upper None most is p q u (inr big) = beyond between n None is (inl (omega (arith, p, upper-none least upper most q u)))
judged-beyond between n least upper (Some m) most is p (k, e, q) u (inl big) = beyond between n (Some m) is (inl (omega (arith, p)))
judged-beyond between n least upper (Some m) most is p (k, e, q) u (inr big) =
    beyond between n (Some m) is (inr (m, refl, omega (arith, q, upper-some least upper k most e u)))

pub judged-bad : (between : List ℕ) (n least upper : ℕ) (m most : Option ℕ) → IsRepeat between n m → IsCapped n least → IsCappedIf m most
    → upper ≡ unwrap_or most least → least ≤ most_times → upper < least → IsKind (repeat between) BadRepeat
judged-bad between n least upper None most is p q u within less = absurd (omega (arith, upper-none least upper most q u))
judged-bad between n least upper (Some m) most is p (k, e, q) u within less =
    inr (n, m, is, omega (arith, p), omega (arith, p, q, upper-some least upper k most e u))

pub judged-sound : (between : List ℕ) (n least upper : ℕ) (m most : Option ℕ) → IsRepeat between n m → IsCapped n least → IsCappedIf m most
    → upper ≡ unwrap_or most least → least ≤ most_times → upper ≤ most_times → least ≤ upper → IsKind (repeat between) (Mark (Postfix least most))
judged-sound between n least upper None most is p q u within below order =
    let same : n ≡ least = omega (arith, p) in
    (subst (λ k. IsRepeat between k most) same (subst (IsRepeat between n) (sym q) is), sound-none between n is (omega arith))
judged-sound between n least upper (Some m) most is p (k, e, q) u within below order =
    let same : n ≡ least = omega (arith, p) in
    let same_k : upper ≡ k = upper-some least upper k most e u in
    let same_m : m ≡ k = omega (arith, q) in
    let whole : Some m ≡ most = ap Some same_m ∙ sym e in
    (subst (λ j. IsRepeat between j most) same (subst (IsRepeat between n) whole is), sound-some between n m is (omega arith) (omega arith))

-- At most one refusal of an expression comes first.
use Rattle.std.proofs.Common.{◌≡◌, ℕ, inl, inr, List, [], ◌∷◌, ◌++◌, sym, ap, ◌∙◌, subst, append_assoc, min}
use Rattle.mine_model.specs.declared.fault.Fault.{Fault}
use Rattle.mine_model.specs.declared.fault.Fault.TheVariants.{BadToken, BadRepeat, Unexpected, RepeatLimit, TooDeep, TooManyLeaves}
use Rattle.mine_model.specs.Limits.{most_told_leaves}
use Rattle.mine_model.specs.Expression.{Tree, unfolded_leaves}
use Rattle.mine_model.specs.Tokens.{Placed}
use Rattle.mine_model.specs.Grammar.{Use, expression, Reads, Begins, ReadsAs}
use Rattle.mine_model.specs.First.{FirstAmong}
use Rattle.mine_model.specs.Refusal.{IsFirstToken, IsBadRepeat, IsBeyondLimit, IsWrongAfter, IsUnexpected, IsTooDeepAfter, IsTooLong, HasBadToken, IsOfTokens, HasBadRepeat, HasRepeatOverLimit, HasUnexpected, IsTooDeep, HasTooManyLeaves, IsExpressionRefusal}
use Rattle.mine_model.proofs.FirstLemmas.{AtMostOne, FirstOf-unique, FirstAmong-unique}
use Rattle.patex_grammar.proofs.TokenLemmas.{AreTokens-unique, IsBadToken-unique}
use Rattle.patex_grammar.proofs.PrefixLemmas.{begins-cut}
use Rattle.patex_grammar.proofs.Unambiguous.{unambiguous}

-- a text reads as at most one tree
pub ReadsAs-unique : (text : List ℕ) (t u : Tree Use) → ReadsAs text t → ReadsAs text u → t ≡ u
ReadsAs-unique text t u (tokens, are, reads) (others, are', reads') =
    unambiguous expression tokens t u reads
    (subst (λ x. Reads expression x u) (AreTokens-unique text others tokens are' are) reads')

-- at most one token is the first that has a property
pub IsFirstToken-unique : (Has : List Placed → Placed → Type 0) (tokens : List Placed) → AtMostOne (IsFirstToken Has tokens)
IsFirstToken-unique Has tokens =
    FirstAmong-unique (λ before placed at. Has before placed × (at ≡ placed.column)) (λ before placed j k p q. p.1 ∙ sym q.1) [] tokens

-- where all tokens begin an expression, none of them is wrong
none-wrong : (before tokens : List Placed) (column : ℕ) → Begins (before ++ tokens)
    → FirstAmong (λ before placed at. IsWrongAfter before placed × (at ≡ placed.column)) before tokens column → ⊥
none-wrong before [] column begins first = first
none-wrong before (t ∷ tokens) column begins (inl wrong) =
    wrong.0 (begins-cut (before ++ t ∷ []) tokens (subst Begins (sym (append_assoc before (t ∷ []) tokens)) begins))
none-wrong before (t ∷ tokens) column begins (inr later) =
    none-wrong (before ++ t ∷ []) tokens column (subst Begins (sym (append_assoc before (t ∷ []) tokens)) begins) later.1

pub begun-none-wrong : (tokens : List Placed) (column : ℕ) → Begins tokens → IsFirstToken IsWrongAfter tokens column → ⊥
begun-none-wrong tokens column begins first = none-wrong [] tokens column begins first

pub IsUnexpected-unique : (text : List ℕ) (tokens : List Placed) → AtMostOne (IsUnexpected text tokens)
IsUnexpected-unique text tokens j k (inl p) (inl q) = IsFirstToken-unique IsWrongAfter tokens j k p q
IsUnexpected-unique text tokens j k (inl p) (inr q) = absurd (begun-none-wrong tokens j q.0 p)
IsUnexpected-unique text tokens j k (inr p) (inl q) = absurd (begun-none-wrong tokens k p.0 q)
IsUnexpected-unique text tokens j k (inr p) (inr q) = p.2 ∙ sym q.2

-- a refusal at a column of the tokens, of which there is at most one
of-tokens : (text : List ℕ) (Has : List Placed → ℕ → Type 0) (kind : ℕ → Fault) → ((tokens : List Placed) → AtMostOne (Has tokens)) → AtMostOne (IsOfTokens text Has kind)
of-tokens text Has kind one f g (tokens, j, are, has, is) (others, k, are', has', is') =
    let same : others ≡ tokens = AreTokens-unique text others tokens are' are in
    is ∙ ap kind (one tokens j k has (subst (λ x. Has x k) same has')) ∙ sym is'

too-many : (text : List ℕ) → AtMostOne (HasTooManyLeaves text)
too-many text f g (tokens, t, are, reads, more, is) (others, u, are', reads', more', is') =
    let same : t ≡ u = ReadsAs-unique text t u (tokens, are, reads) (others, are', reads') in
    is ∙ ap (λ (x : Tree Use). TooManyLeaves (min (unfolded_leaves x) most_told_leaves)) same ∙ sym is'

pub IsExpressionRefusal-unique : (text : List ℕ) → AtMostOne (IsExpressionRefusal text)
IsExpressionRefusal-unique text =
    FirstOf-unique (IsTooLong text) _ (λ f g p q. p.1 ∙ sym q.1)
    (FirstOf-unique (HasBadToken text) _ (λ f g p q. p.2 ∙ ap BadToken (IsBadToken-unique text p.0 q.0 p.1 q.1) ∙ sym q.2)
    (FirstOf-unique (HasBadRepeat text) _
    (of-tokens text (IsFirstToken (λ before placed. IsBadRepeat placed.token)) BadRepeat (IsFirstToken-unique (λ before placed. IsBadRepeat placed.token)))
    (FirstOf-unique (HasRepeatOverLimit text) _
    (of-tokens text (IsFirstToken (λ before placed. IsBeyondLimit placed.token)) RepeatLimit (IsFirstToken-unique (λ before placed. IsBeyondLimit placed.token)))
    (FirstOf-unique (HasUnexpected text) _ (of-tokens text (IsUnexpected text) Unexpected (IsUnexpected-unique text))
    (FirstOf-unique (IsTooDeep text) _ (of-tokens text (IsFirstToken IsTooDeepAfter) TooDeep (IsFirstToken-unique IsTooDeepAfter))
    (too-many text))))))

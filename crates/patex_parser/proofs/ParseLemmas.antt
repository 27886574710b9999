-- From tokens as they were read to the promise of the parser.
use Rattle.std.proofs.Common.{◌≡◌, ℕ, ◌+◌, ◌<◌, ◌≤◌, inl, inr, Some, None, List, [], ◌∷◌, ◌++◌, map, length, min, refl, sym, ap, ◌∙◌, subst, append_assoc, arith}
use Rattle.std.specs.List.{AllByRecursion}
use Rattle.std.proofs.lemmas.List.{append-nil}
use Rattle.mine_model.specs.declared.item.Item.{Item}
use Rattle.mine_model.specs.declared.fault.Fault.{Fault}
use Rattle.mine_model.specs.declared.fault.Fault.TheVariants as fault
use Rattle.patex_parser.specs.declared.patex_fault.PatexFault.{PatexFault}
use Rattle.patex_parser.specs.Faults.{fault_of}
use Rattle.mine_model.specs.Limits.{most_expression_bytes, most_leaves, most_told_leaves}
use Rattle.mine_model.specs.Expression.{Tree, tree_by, named_in, unfolded_leaves}
use Rattle.mine_model.specs.Tokens.{Placed, AreTokens, IsBadToken}
use Rattle.mine_model.specs.Grammar.{Use, expression, Reads, Begins}
use Rattle.mine_model.specs.First.{FirstAmong}
use Rattle.mine_model.specs.Refusal.{IsFirstToken, IsBadRepeat, IsBeyondLimit, IsWrongAfter, IsUnexpected, IsTooDeepAfter, IsExpressionRefusal, IsTooLong, HasBadToken, IsOfTokens, HasBadRepeat, HasRepeatOverLimit, HasUnexpected, IsTooDeep, HasTooManyLeaves}
use Rattle.mine_model.proofs.NumberingLemmas.{unfolded_leaves-by}
use Rattle.patex_grammar.specs.Machine.{State, state, next, initial}
use Rattle.patex_grammar.specs.Holding.{Reaches}
use Rattle.patex_grammar.proofs.TokenLemmas.{AreTokens-unique, AreTokens-no_bad}
use Rattle.patex_grammar.proofs.PrefixLemmas.{answered-reads, reaches-begins, begins-cut, wrong-mark, open-bracket, no-operand, reaches-cut, reads-answered}
use Rattle.patex_grammar.proofs.RefusalLemmas.{begun-none-wrong}
use Rattle.patex_grammar.proofs.Unambiguous.{unambiguous}
use Rattle.patex_parser.specs.declared.token.Kind.{Kind}
use Rattle.patex_parser.specs.declared.token.Kind.TheVariants.{Mark as AMark, BadRepeat, BeyondLimit}
use Rattle.patex_parser.specs.declared.token.ReadToken.{ReadToken}
use Rattle.patex_parser.specs.Parsing.{use_at, AreNumbered, IsParsed, IsRefused}
use Rattle.patex_parser.specs.Scanning.{AreRead, IsScanned, IsBadTokenFault}
use Rattle.patex_parser.specs.Reading.{IsMarked, mark_of_kind, marks_of, IsBehind, IsEnd, IsReadWhole, IsStuck, IsUnfinished, IsUnexpectedFault}
use Rattle.patex_parser.specs.Checking.{HasAt, IsFirstRead, NoneHas, IsOf, IsRepeatFault, IsTooDeepRead, IsNotTooDeep, IsDepthFault, IsLeavesFault}
use Rattle.patex_parser.proofs.RunLemmas.{mark_by, if_by, last_by, frames_by, state_by, state_if_by, next-by, run-by, finished-by, named_in-by, named_state, named_marks, finished-named, run-named}
use Rattle.patex_parser.proofs.FirstReads.{none-first}
use Rattle.patex_parser.proofs.MeaningLemmas.{Pairwise, Pairwise-split, Pairwise-push, Means, MeansMark, KindMeans, read-means, all-marked, mark-is, marks-are, read-named, numbered-uses, numbered-within}
use Rattle.patex_parser.proofs.RepeatLemmas.{bad-not-beyond}
use Rattle.patex_parser.proofs.DepthLemmas.{reaches-open, deep-there, deep-back}

-- the first of tokens and the first of how they were read

abbrev PlacedAt : (List Placed → Placed → Type 0) → List Placed → Placed → ℕ → Type 0
PlacedAt Has before placed column = Has before placed × (column ≡ placed.column)

module _ (R : Placed → ReadToken → Type 0) (columns : (p : Placed) (t : ReadToken) → R p t → t.column ≡ p.column)
    (HasP : List Placed → Placed → Type 0) (HasT : List ReadToken → ReadToken → Type 0) (whole : List Placed)
    (to : (bp : List Placed) (p : Placed) (rest : List Placed) (bt : List ReadToken) (t : ReadToken) → whole ≡ bp ++ p ∷ rest → Pairwise R bp bt → R p t → HasT bt t → HasP bp p)
    (from : (bp : List Placed) (p : Placed) (rest : List Placed) (bt : List ReadToken) (t : ReadToken) → whole ≡ bp ++ p ∷ rest → Pairwise R bp bt → R p t → HasP bp p → HasT bt t) where
  pub first-there : (bp ps : List Placed) (bt ts : List ReadToken) → whole ≡ bp ++ ps → Pairwise R bp bt → Pairwise R ps ts → (column : ℕ)
      → FirstAmong (HasAt HasT) bt ts column → FirstAmong (PlacedAt HasP) bp ps column
  first-there bp [] bt [] same before pairs column first = absurd first
  first-there bp [] bt (t ∷ ts) same before pairs column first = absurd pairs
  first-there bp (p ∷ ps) bt [] same before pairs column first = absurd pairs
  first-there bp (p ∷ ps) bt (t ∷ ts) same before pairs column (inl has) =
      inl (to bp p ps bt t same before pairs.0 has.0, has.1 ∙ columns p t pairs.0)
  first-there bp (p ∷ ps) bt (t ∷ ts) same before pairs column (inr later) =
      inr (
        λ other has. later.0 other (from bp p ps bt t same before pairs.0 has.0, has.1 ∙ sym (columns p t pairs.0)),
        first-there (bp ++ p ∷ []) ps (bt ++ t ∷ []) ts (same ∙ sym (append_assoc bp (p ∷ []) ps)) (Pairwise-push R bp p bt t before pairs.0) pairs.1 column later.1,
      )

  pub first-back : (bp ps : List Placed) (bt ts : List ReadToken) → whole ≡ bp ++ ps → Pairwise R bp bt → Pairwise R ps ts → (column : ℕ)
      → FirstAmong (PlacedAt HasP) bp ps column → FirstAmong (HasAt HasT) bt ts column
  first-back bp [] bt [] same before pairs column first = absurd first
  first-back bp [] bt (t ∷ ts) same before pairs column first = absurd first
  first-back bp (p ∷ ps) bt [] same before pairs column first = absurd pairs
  first-back bp (p ∷ ps) bt (t ∷ ts) same before pairs column (inl has) =
      inl (from bp p ps bt t same before pairs.0 has.0, has.1 ∙ sym (columns p t pairs.0))
  first-back bp (p ∷ ps) bt (t ∷ ts) same before pairs column (inr later) =
      inr (
        λ other has. later.0 other (to bp p ps bt t same before pairs.0 has.0, has.1 ∙ columns p t pairs.0),
        first-back (bp ++ p ∷ []) ps (bt ++ t ∷ []) ts (same ∙ sym (append_assoc bp (p ∷ []) ps)) (Pairwise-push R bp p bt t before pairs.0) pairs.1 column later.1,
      )

-- repeats that are refused

bad-kind : (f : Item → Use) (p : Placed) (kind : Kind) → KindMeans f p kind → IsBadRepeat p.token → kind ≡ BadRepeat
bad-kind f p (AMark mark) means bad = absurd (means.1.0 bad)
bad-kind f p BadRepeat means bad = refl
bad-kind f p BeyondLimit means bad = absurd (means.1 bad)

beyond-kind : (f : Item → Use) (p : Placed) (kind : Kind) → KindMeans f p kind → IsBeyondLimit p.token → kind ≡ BeyondLimit
beyond-kind f p (AMark mark) means beyond = absurd (means.1.1 beyond)
beyond-kind f p BadRepeat means beyond = absurd (bad-not-beyond p.token means beyond)
beyond-kind f p BeyondLimit means beyond = refl

module _ (f : Item → Use) (placed : List Placed) (reads : List ReadToken) (pairs : Pairwise (Means f) placed reads) where
  columns : (p : Placed) (t : ReadToken) → Means f p t → t.column ≡ p.column
  columns p t means = means.0

  bad-to : (bp : List Placed) (p : Placed) (rest : List Placed) (bt : List ReadToken) (t : ReadToken) → placed ≡ bp ++ p ∷ rest → Pairwise (Means f) bp bt → Means f p t
      → IsOf BadRepeat bt t → IsBadRepeat p.token
  bad-to bp p rest bt t same before means is = let bad : KindMeans f p BadRepeat = subst (KindMeans f p) is means.1 in bad

  bad-from : (bp : List Placed) (p : Placed) (rest : List Placed) (bt : List ReadToken) (t : ReadToken) → placed ≡ bp ++ p ∷ rest → Pairwise (Means f) bp bt → Means f p t
      → IsBadRepeat p.token → IsOf BadRepeat bt t
  bad-from bp p rest bt t same before means bad = bad-kind f p t.kind means.1 bad

  beyond-to : (bp : List Placed) (p : Placed) (rest : List Placed) (bt : List ReadToken) (t : ReadToken) → placed ≡ bp ++ p ∷ rest → Pairwise (Means f) bp bt → Means f p t
      → IsOf BeyondLimit bt t → IsBeyondLimit p.token
  beyond-to bp p rest bt t same before means is = let beyond : KindMeans f p BeyondLimit = subst (KindMeans f p) is means.1 in beyond.0

  beyond-from : (bp : List Placed) (p : Placed) (rest : List Placed) (bt : List ReadToken) (t : ReadToken) → placed ≡ bp ++ p ∷ rest → Pairwise (Means f) bp bt → Means f p t
      → IsBeyondLimit p.token → IsOf BeyondLimit bt t
  beyond-from bp p rest bt t same before means beyond = beyond-kind f p t.kind means.1 beyond

  pub bad-there : (column : ℕ) → IsFirstRead (IsOf BadRepeat) reads column → IsFirstToken (λ before p. IsBadRepeat p.token) placed column
  bad-there column first = first-there (Means f) columns (λ before p. IsBadRepeat p.token) (IsOf BadRepeat) placed bad-to bad-from [] placed [] reads refl tt pairs column first

  pub bad-back : (column : ℕ) → IsFirstToken (λ before p. IsBadRepeat p.token) placed column → IsFirstRead (IsOf BadRepeat) reads column
  bad-back column first = first-back (Means f) columns (λ before p. IsBadRepeat p.token) (IsOf BadRepeat) placed bad-to bad-from [] placed [] reads refl tt pairs column first

  pub beyond-there : (column : ℕ) → IsFirstRead (IsOf BeyondLimit) reads column → IsFirstToken (λ before p. IsBeyondLimit p.token) placed column
  beyond-there column first = first-there (Means f) columns (λ before p. IsBeyondLimit p.token) (IsOf BeyondLimit) placed beyond-to beyond-from [] placed [] reads refl tt pairs column first

  pub beyond-back : (column : ℕ) → IsFirstToken (λ before p. IsBeyondLimit p.token) placed column → IsFirstRead (IsOf BeyondLimit) reads column
  beyond-back column first = first-back (Means f) columns (λ before p. IsBeyondLimit p.token) (IsOf BeyondLimit) placed beyond-to beyond-from [] placed [] reads refl tt pairs column first

marked-none-bad : (before reads : List ReadToken) → AllByRecursion IsMarked reads → NoneHas (IsOf BadRepeat) before reads
marked-none-bad before [] marked = tt
marked-none-bad before (r ∷ reads) marked =
    (λ is. let wrong : AMark marked.0.0 ≡ BadRepeat = sym marked.0.1 ∙ is in cc, marked-none-bad (before ++ r ∷ []) reads marked.1)

marked-none-beyond : (before reads : List ReadToken) → AllByRecursion IsMarked reads → NoneHas (IsOf BeyondLimit) before reads
marked-none-beyond before [] marked = tt
marked-none-beyond before (r ∷ reads) marked =
    (λ is. let wrong : AMark marked.0.0 ≡ BeyondLimit = sym marked.0.1 ∙ is in cc, marked-none-beyond (before ++ r ∷ []) reads marked.1)

-- the machine over the uses

module _ (f : Item → Use) where
  reaches : (placed : List Placed) (reads : List ReadToken) (s : State Item) → Pairwise (MeansMark f) placed reads → IsBehind reads s → Reaches placed (state_by f s)
  reaches placed reads s pairs behind =
      (map (mark_by f) (marks_of reads), marks-are f placed reads pairs, run-by f (Some initial) (marks_of reads) ∙ ap (state_if_by f) behind)

  end-reads : (placed : List Placed) (s : State Item) (tree : Tree Item) → Reaches placed (state_by f s) → IsEnd s (Some tree) → Reads expression placed (tree_by f tree)
  end-reads placed (state [] choice row last) tree reached end =
      answered-reads placed (tree_by f tree) (if_by f choice, if_by f row, last_by f last, reached, finished-by f choice row last ∙ ap (if_by f) (sym end))
  end-reads placed (state (fr ∷ stack) choice row last) tree reached end = cc

  pub whole-reads : (placed : List Placed) (reads : List ReadToken) (tree : Tree Item) → Pairwise (MeansMark f) placed reads → IsReadWhole reads tree → Reads expression placed (tree_by f tree)
  whole-reads placed reads tree pairs (s, behind, end) = end-reads placed s tree (reaches placed reads s pairs behind) end

  end-none : (placed : List Placed) (s : State Item) → Reaches placed (state_by f s) → IsEnd s None → (tree : Tree Use) → Reads expression placed tree → ⊥
  end-none placed (state [] choice row last) reached end tree reads =
      no-operand placed (if_by f choice) (if_by f row) (last_by f last) tree reached (finished-by f choice row last ∙ ap (if_by f) (sym end)) reads
  end-none placed (state (fr ∷ stack) choice row last) reached end tree reads =
      open-bracket placed _ (frames_by f stack) (if_by f choice) (if_by f row) (last_by f last) tree reached reads

  first-wrong-at : (before front : List Placed) (p : Placed) (back : List Placed) → Begins (before ++ front) → (Begins ((before ++ front) ++ p ∷ []) → ⊥)
      → FirstAmong (PlacedAt IsWrongAfter) before (front ++ p ∷ back) p.column
  first-wrong-at before [] p back begins wrong = inl (λ more. wrong (subst (λ xs. Begins (xs ++ p ∷ [])) (sym (append-nil before)) more), refl)
  first-wrong-at before (q ∷ front) p back begins wrong =
      inr (
        λ other has. has.0 (begins-cut (before ++ q ∷ []) front (subst Begins (sym (append_assoc before (q ∷ []) front)) begins)),
        first-wrong-at (before ++ q ∷ []) front p back (subst Begins (sym (append_assoc before (q ∷ []) front)) begins)
            (subst (λ xs. Begins (xs ++ p ∷ []) → ⊥) (sym (append_assoc before (q ∷ []) front)) wrong),
      )

  pub stuck-wrong : (placed : List Placed) (reads : List ReadToken) (column : ℕ) → Pairwise (MeansMark f) placed reads → IsStuck reads column → IsFirstToken IsWrongAfter placed column
  stuck-wrong placed reads column pairs (before, read, after, s, same, at, behind, none) =
      let (front, p, back, cut, first, here, rest) = Pairwise-split (MeansMark f) placed before read after (subst (λ xs. Pairwise (MeansMark f) placed xs) same pairs) in
      let reached : Reaches front (state_by f s) = reaches front before s first behind in
      let no-step : next (state_by f s) (mark_by f (mark_of_kind read.kind)) ≡ None = next-by f s (mark_of_kind read.kind) ∙ ap (state_if_by f) none in
      let wrong : Begins (front ++ p ∷ []) → ⊥ = wrong-mark front p (mark_by f (mark_of_kind read.kind)) (state_by f s) reached (mark-is f p read here) no-step in
      subst (λ xs. IsFirstToken IsWrongAfter xs column) (sym cut)
      (subst (FirstAmong (PlacedAt IsWrongAfter) [] (front ++ p ∷ back)) (sym (at ∙ here.0))
      (first-wrong-at [] front p back (reaches-begins front (state_by f s) reached) wrong))

  pub unfinished-wrong : (text : List ℕ) (placed : List Placed) (reads : List ReadToken) → Pairwise (MeansMark f) placed reads → IsUnfinished reads → IsUnexpected text placed (length text + 1)
  unfinished-wrong text placed reads pairs (s, behind, end) =
      let reached : Reaches placed (state_by f s) = reaches placed reads s pairs behind in
      inr (reaches-begins placed (state_by f s) reached, end-none placed s reached end, refl)

reads-begins : (placed : List Placed) (tree : Tree Use) → Reads expression placed tree → Begins placed
reads-begins placed tree reads = ([], tree, subst (λ xs. Reads expression xs tree) (sym (append-nil placed)) reads)

-- tokens that read as a tree are not unexpected
not-unexpected : (text : List ℕ) (placed : List Placed) (tree : Tree Use) → Reads expression placed tree → (column : ℕ) → IsUnexpected text placed column → ⊥
not-unexpected text placed tree reads column (inl first) = begun-none-wrong placed column (reads-begins placed tree reads) first
not-unexpected text placed tree reads column (inr (begins, none, at)) = none tree reads

-- too deep

deep-columns : (f : Item → Use) (p : Placed) (t : ReadToken) → MeansMark f p t → t.column ≡ p.column
deep-columns f p t means = means.0

deep-to : (f : Item → Use) (placed : List Placed) (tree : Tree Use) → Reads expression placed tree
    → (bp : List Placed) (p : Placed) (rest : List Placed) (bt : List ReadToken) (t : ReadToken) → placed ≡ bp ++ p ∷ rest → Pairwise (MeansMark f) bp bt → MeansMark f p t
    → IsTooDeepRead bt t → IsTooDeepAfter bp p
deep-to f placed tree reads bp p rest bt t same before means deep =
    let (choice, row, last, reached, end) = reads-answered placed tree reads in
    let (s, reached') = reaches-cut bp (p ∷ rest) (state [] choice row last) (subst (λ xs. Reaches xs (state [] choice row last)) same reached) in
    deep-there f bp p bt t (reaches-open bp s reached') before means deep

deep-from : (f : Item → Use) (placed : List Placed) (bp : List Placed) (p : Placed) (rest : List Placed) (bt : List ReadToken) (t : ReadToken)
    → placed ≡ bp ++ p ∷ rest → Pairwise (MeansMark f) bp bt → MeansMark f p t → IsTooDeepAfter bp p → IsTooDeepRead bt t
deep-from f placed bp p rest bt t same before means deep = deep-back f bp p bt t before means deep

deep-first : (f : Item → Use) (placed : List Placed) (reads : List ReadToken) (tree : Tree Use) → Pairwise (MeansMark f) placed reads → Reads expression placed tree
    → (column : ℕ) → IsFirstRead IsTooDeepRead reads column → IsFirstToken IsTooDeepAfter placed column
deep-first f placed reads tree pairs is column first =
    first-there (MeansMark f) (deep-columns f) IsTooDeepAfter IsTooDeepRead placed (deep-to f placed tree is) (deep-from f placed) [] placed [] reads refl tt pairs column first

not-deep : (f : Item → Use) (placed : List Placed) (reads : List ReadToken) (tree : Tree Use) → Pairwise (MeansMark f) placed reads → Reads expression placed tree
    → IsNotTooDeep reads → (column : ℕ) → IsFirstToken IsTooDeepAfter placed column → ⊥
not-deep f placed reads tree pairs is none column first =
    none-first IsTooDeepRead [] reads column none
    (first-back (MeansMark f) (deep-columns f) IsTooDeepAfter IsTooDeepRead placed (deep-to f placed tree is) (deep-from f placed) [] placed [] reads refl tt pairs column first)

-- which refusal comes first

abbrev None-of : (Fault → Type 0) → Type 0
None-of Kind = (f : Fault) → Kind f → ⊥

-- none of the refusals stands
abbrev NoRefusal : List ℕ → Type 0
NoRefusal text = (f : Fault) → IsExpressionRefusal text f → ⊥

module _ (text : List ℕ) where
  pub at-length : most_expression_bytes < length text → IsExpressionRefusal text fault.ExprTooLong
  at-length long = inl (long, refl)

  at-token : None-of (IsTooLong text) → (f : Fault) → HasBadToken text f → IsExpressionRefusal text f
  at-token none1 f has = inr (none1, inl has)

  at-repeat : None-of (IsTooLong text) → None-of (HasBadToken text) → (f : Fault) → HasBadRepeat text f → IsExpressionRefusal text f
  at-repeat none1 none2 f has = inr (none1, inr (none2, inl has))

  at-limit : None-of (IsTooLong text) → None-of (HasBadToken text) → None-of (HasBadRepeat text) → (f : Fault) → HasRepeatOverLimit text f → IsExpressionRefusal text f
  at-limit none1 none2 none3 f has = inr (none1, inr (none2, inr (none3, inl has)))

  at-unexpected : None-of (IsTooLong text) → None-of (HasBadToken text) → None-of (HasBadRepeat text) → None-of (HasRepeatOverLimit text) → (f : Fault) → HasUnexpected text f
      → IsExpressionRefusal text f
  at-unexpected none1 none2 none3 none4 f has = inr (none1, inr (none2, inr (none3, inr (none4, inl has))))

  at-deep : None-of (IsTooLong text) → None-of (HasBadToken text) → None-of (HasBadRepeat text) → None-of (HasRepeatOverLimit text) → None-of (HasUnexpected text)
      → (f : Fault) → IsTooDeep text f → IsExpressionRefusal text f
  at-deep none1 none2 none3 none4 none5 f has = inr (none1, inr (none2, inr (none3, inr (none4, inr (none5, inl has)))))

  at-leaves : None-of (IsTooLong text) → None-of (HasBadToken text) → None-of (HasBadRepeat text) → None-of (HasRepeatOverLimit text) → None-of (HasUnexpected text)
      → None-of (IsTooDeep text) → (f : Fault) → HasTooManyLeaves text f → IsExpressionRefusal text f
  at-leaves none1 none2 none3 none4 none5 none6 f has = inr (none1, inr (none2, inr (none3, inr (none4, inr (none5, inr (none6, has))))))

  nowhere : None-of (IsTooLong text) → None-of (HasBadToken text) → None-of (HasBadRepeat text) → None-of (HasRepeatOverLimit text) → None-of (HasUnexpected text)
      → None-of (IsTooDeep text) → None-of (HasTooManyLeaves text) → NoRefusal text
  nowhere none1 none2 none3 none4 none5 none6 none7 f (inl has) = none1 f has
  nowhere none1 none2 none3 none4 none5 none6 none7 f (inr (_, inl has)) = none2 f has
  nowhere none1 none2 none3 none4 none5 none6 none7 f (inr (_, inr (_, inl has))) = none3 f has
  nowhere none1 none2 none3 none4 none5 none6 none7 f (inr (_, inr (_, inr (_, inl has)))) = none4 f has
  nowhere none1 none2 none3 none4 none5 none6 none7 f (inr (_, inr (_, inr (_, inr (_, inl has))))) = none5 f has
  nowhere none1 none2 none3 none4 none5 none6 none7 f (inr (_, inr (_, inr (_, inr (_, inr (_, inl has)))))) = none6 f has
  nowhere none1 none2 none3 none4 none5 none6 none7 f (inr (_, inr (_, inr (_, inr (_, inr (_, inr (_, has))))))) = none7 f has

  pub token-refused : length text ≤ most_expression_bytes → (e : PatexFault) → IsBadTokenFault text e → IsRefused (IsExpressionRefusal text) e
  token-refused short e (inl is) = inl is
  token-refused short e (inr (column, bad, is)) =
      inr (subst (λ x. IsExpressionRefusal text (fault_of x)) (sym is) (at-token (λ f long. omega (arith, long.0)) (fault.BadToken column) (column, bad, refl)))

  module _ (short : length text ≤ most_expression_bytes) (placed : List Placed) (are : AreTokens text placed)
      (f : Item → Use) (reads : List ReadToken) (pairs : Pairwise (Means f) placed reads) where
    none-long : None-of (IsTooLong text)
    none-long f' long = omega (arith, long.0)

    none-token : None-of (HasBadToken text)
    none-token f' (column, bad, is) = AreTokens-no_bad text placed column are bad

    none-of-tokens : (Has : List Placed → ℕ → Type 0) (kind : ℕ → Fault) → ((column : ℕ) → Has placed column → ⊥) → None-of (IsOfTokens text Has kind)
    none-of-tokens Has kind none f' (tokens, column, are', has, is) =
        none column (subst (λ xs. Has xs column) (AreTokens-unique text tokens placed are' are) has)

    none-repeat : NoneHas (IsOf BadRepeat) [] reads → None-of (HasBadRepeat text)
    none-repeat none = none-of-tokens (IsFirstToken (λ before p. IsBadRepeat p.token)) fault.BadRepeat
        λ column first. none-first (IsOf BadRepeat) [] reads column none (bad-back f placed reads pairs column first)

    none-limit : NoneHas (IsOf BeyondLimit) [] reads → None-of (HasRepeatOverLimit text)
    none-limit none = none-of-tokens (IsFirstToken (λ before p. IsBeyondLimit p.token)) fault.RepeatLimit
        λ column first. none-first (IsOf BeyondLimit) [] reads column none (beyond-back f placed reads pairs column first)

    pub repeat-refused : (e : PatexFault) → IsRepeatFault reads e → IsRefused (IsExpressionRefusal text) e
    repeat-refused e (inl (column, first, is)) =
        inr (subst (λ x. IsExpressionRefusal text (fault_of x)) (sym is)
        (at-repeat none-long none-token (fault.BadRepeat column) (placed, column, are, bad-there f placed reads pairs column first, refl)))
    repeat-refused e (inr (none, column, first, is)) =
        inr (subst (λ x. IsExpressionRefusal text (fault_of x)) (sym is)
        (at-limit none-long none-token (none-repeat none) (fault.RepeatLimit column) (placed, column, are, beyond-there f placed reads pairs column first, refl)))

    module _ (marked : AllByRecursion IsMarked reads) where
      marks : Pairwise (MeansMark f) placed reads
      marks = all-marked f placed reads pairs marked

      none-repeats : None-of (HasBadRepeat text)
      none-repeats = none-repeat (marked-none-bad [] reads marked)

      none-limits : None-of (HasRepeatOverLimit text)
      none-limits = none-limit (marked-none-beyond [] reads marked)

      unexpected : (column : ℕ) → IsUnexpected text placed column → IsExpressionRefusal text (fault.Unexpected column)
      unexpected column is = at-unexpected none-long none-token none-repeats none-limits (fault.Unexpected column) (placed, column, are, is, refl)

      pub unexpected-refused : (end : ℕ) → end ≡ length text + 1 → (e : PatexFault) → IsUnexpectedFault reads end e → IsRefused (IsExpressionRefusal text) e
      unexpected-refused end at e (inl is) = inl is
      unexpected-refused end at e (inr (inl (column, stuck, is))) =
          inr (subst (λ x. IsExpressionRefusal text (fault_of x)) (sym is) (unexpected column (inl (stuck-wrong f placed reads column marks stuck))))
      unexpected-refused end at e (inr (inr (unfinished, is))) =
          inr (subst (λ x. IsExpressionRefusal text (fault_of x)) (sym is)
          (subst (λ k. IsExpressionRefusal text (fault.Unexpected k)) (sym at) (unexpected (length text + 1) (unfinished-wrong f text placed reads marks unfinished))))

      module _ (tree : Tree Item) (whole : IsReadWhole reads tree) where
        is-read : Reads expression placed (tree_by f tree)
        is-read = whole-reads f placed reads tree marks whole

        none-unexpected : None-of (HasUnexpected text)
        none-unexpected = none-of-tokens (IsUnexpected text) fault.Unexpected (not-unexpected text placed (tree_by f tree) is-read)

        pub deep-refused : (e : PatexFault) → IsDepthFault reads e → IsRefused (IsExpressionRefusal text) e
        deep-refused e (column, first, is) =
            inr (subst (λ x. IsExpressionRefusal text (fault_of x)) (sym is)
            (at-deep none-long none-token none-repeats none-limits none-unexpected (fault.TooDeep column)
            (placed, column, are, deep-first f placed reads (tree_by f tree) marks is-read column first, refl)))

        module _ (flat : IsNotTooDeep reads) where
          none-deep : None-of (IsTooDeep text)
          none-deep = none-of-tokens (IsFirstToken IsTooDeepAfter) fault.TooDeep (not-deep f placed reads (tree_by f tree) marks is-read flat)

          pub leaves-refused : (e : PatexFault) → IsLeavesFault tree e → IsRefused (IsExpressionRefusal text) e
          leaves-refused e (more, is) =
              let count : unfolded_leaves tree ≡ unfolded_leaves (tree_by f tree) = sym (unfolded_leaves-by f tree) in
              inr (subst (λ x. IsExpressionRefusal text (fault_of x)) (sym is)
              (at-leaves none-long none-token none-repeats none-limits none-unexpected none-deep (fault.TooManyLeaves (min (unfolded_leaves tree) most_told_leaves))
              (placed, tree_by f tree, are, is-read, subst (λ n. most_leaves < n) count more, ap (λ n. fault.TooManyLeaves (min n most_told_leaves)) count)))

          pub none-refused : unfolded_leaves tree ≤ most_leaves → NoRefusal text
          none-refused few = nowhere none-long none-token none-repeats none-limits none-unexpected none-deep none-leaves
            where
              none-leaves : None-of (HasTooManyLeaves text)
              none-leaves f' (tokens, other, are', is, more, told) =
                  let same : other ≡ tree_by f tree = unambiguous expression placed other (tree_by f tree)
                  (subst (λ xs. Reads expression xs other) (AreTokens-unique text tokens placed are' are) is) is-read in
                  let count : unfolded_leaves other ≡ unfolded_leaves tree = ap (λ (t : Tree Use). unfolded_leaves t) same ∙ unfolded_leaves-by f tree in
                  omega (arith, more, count, few)

-- the tokens that a text was read as
pub scanned-means : (text : List ℕ) (reads : List ReadToken) (uses : List Use) → IsScanned text reads uses
    → (placed : List Placed) × AreTokens text placed × AreRead 0 placed reads uses × Pairwise (Means (use_at uses)) placed reads
scanned-means text reads uses (placed, are, read) = (placed, are, read, read-means [] placed reads uses read)

end-named : (s : State Item) (tree : Tree Item) → IsEnd s (Some tree) → named_in tree ≡ named_state s
end-named (state [] choice row last) tree end = finished-named choice row last tree (sym end)
end-named (state (fr ∷ stack) choice row last) tree end = cc

-- what was read is what the parser promises
pub is-parsed : (text : List ℕ) (reads : List ReadToken) (uses : List Use) (tree : Tree Item) → IsScanned text reads uses → AllByRecursion IsMarked reads → IsReadWhole reads tree
    → IsParsed text tree uses
is-parsed text reads uses tree scanned marked whole = record {
  reads = (placed, are, whole-reads (use_at uses) placed reads tree (all-marked (use_at uses) placed reads pairs marked) whole);
  named = named_in-by (use_at uses) tree ∙ numbered-uses [] uses (named_in tree) numbered as_many;
  numbered = numbered;
  as_many = as_many;
  within = numbered-within 0 (length uses) (named_in tree) numbered (omega (arith, as_many));
}
  where
    placed : List Placed
    placed = (scanned-means text reads uses scanned).0

    are : AreTokens text placed
    are = (scanned-means text reads uses scanned).1

    read : AreRead 0 placed reads uses
    read = (scanned-means text reads uses scanned).2

    pairs : Pairwise (Means (use_at uses)) placed reads
    pairs = (scanned-means text reads uses scanned).3

    same : named_in tree ≡ named_marks (marks_of reads)
    same = end-named whole.0 tree whole.2 ∙ run-named initial whole.0 (marks_of reads) whole.1

    numbered : AreNumbered 0 (named_in tree)
    numbered = subst (AreNumbered 0) (sym same) (read-named 0 placed reads uses read).0

    as_many : length (named_in tree) ≡ length uses
    as_many = ap length same ∙ (read-named 0 placed reads uses read).1

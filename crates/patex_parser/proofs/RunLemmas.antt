-- The machine over items that stand for uses runs as over the uses, and what it has read names what its marks name.
use Rattle.std.proofs.Common.{◌≡◌, ℕ, Option, Some, None, List, [], ◌∷◌, ◌++◌, map, refl, sym, ap, ◌∙◌, append_assoc}
use Rattle.std.proofs.lemmas.List.{append-nil}
use Rattle.patex_grammar.proofs.HoldingLemmas.{run-none}
use Rattle.mine_model.specs.Expression.{Leaf, under, exact, climb, forced, any, any_climb, not_under, not_exact, Tree, leaf, cat, alt, rep, cap, named_by, named_in, leaf_by, tree_by}
use Rattle.patex_grammar.specs.Machine.{Bracket, round, square, Mark, name_of, caret, equals, dot, bang, bar, opening, closing, postfix, Last, nothing, excluding, extendable, closed, Frame, frame, State, state, row_with, choice_with, tree_of_last, begun, ended, chosen, finished, with_last, with_name, with_caret, with_equals, extended, with_bar, opened, shut, repeating, next, run}

module _ {A B : Type 0} (f : A → B) where
  abbrev pub mark_by : Mark A → Mark B
  mark_by (name_of a) = name_of (f a)
  mark_by caret = caret
  mark_by equals = equals
  mark_by dot = dot
  mark_by bang = bang
  mark_by bar = bar
  mark_by (opening bracket) = opening bracket
  mark_by (closing bracket) = closing bracket
  mark_by (postfix least most) = postfix least most

  abbrev pub if_by : Option (Tree A) → Option (Tree B)
  if_by None = None
  if_by (Some t) = Some (tree_by f t)

  abbrev pub if_if_by : Option (Option (Tree A)) → Option (Option (Tree B))
  if_if_by None = None
  if_if_by (Some t) = Some (if_by t)

  abbrev pub last_by : Last A → Last B
  last_by nothing = nothing
  last_by excluding = excluding
  last_by (extendable l) = extendable (leaf_by f l)
  last_by (closed t) = closed (tree_by f t)

  abbrev pub last_if_by : Option (Last A) → Option (Last B)
  last_if_by None = None
  last_if_by (Some last) = Some (last_by last)

  abbrev pub frame_by : Frame A → Frame B
  frame_by (frame bracket choice row) = frame bracket (if_by choice) (if_by row)

  abbrev pub frames_by : List (Frame A) → List (Frame B)
  frames_by [] = []
  frames_by (f ∷ stack) = frame_by f ∷ frames_by stack

  abbrev pub state_by : State A → State B
  state_by (state stack choice row last) = state (frames_by stack) (if_by choice) (if_by row) (last_by last)

  abbrev pub state_if_by : Option (State A) → Option (State B)
  state_if_by None = None
  state_if_by (Some s) = Some (state_by s)

  row-by : (row : Option (Tree A)) (t : Tree A) → row_with (if_by row) (tree_by f t) ≡ tree_by f (row_with row t)
  row-by None t = refl
  row-by (Some left) t = refl

  choice-by : (choice : Option (Tree A)) (t : Tree A) → choice_with (if_by choice) (tree_by f t) ≡ tree_by f (choice_with choice t)
  choice-by None t = refl
  choice-by (Some left) t = refl

  begun-by : (row : Option (Tree A)) (last : Last A) → begun (if_by row) (last_by last) ≡ if_if_by (begun row last)
  begun-by row nothing = refl
  begun-by row excluding = refl
  begun-by row (extendable l) = ap (λ (t : Tree B). Some (Some t)) (row-by row (leaf l))
  begun-by row (closed t) = ap (λ (t : Tree B). Some (Some t)) (row-by row t)

  tree_of_last-by : (last : Last A) → tree_of_last (last_by last) ≡ if_by (tree_of_last last)
  tree_of_last-by nothing = refl
  tree_of_last-by excluding = refl
  tree_of_last-by (extendable l) = refl
  tree_of_last-by (closed t) = refl

  ended-by : (row t : Option (Tree A)) → ended (if_by row) (if_by t) ≡ if_by (ended row t)
  ended-by row None = refl
  ended-by row (Some t) = ap (λ (t : Tree B). Some t) (row-by row t)

  chosen-by : (choice t : Option (Tree A)) → chosen (if_by choice) (if_by t) ≡ if_by (chosen choice t)
  chosen-by choice None = refl
  chosen-by choice (Some t) = ap (λ (t : Tree B). Some t) (choice-by choice t)

  pub finished-by : (choice row : Option (Tree A)) (last : Last A) → finished (if_by choice) (if_by row) (last_by last) ≡ if_by (finished choice row last)
  finished-by choice row last =
      ap (λ (t : Option (Tree B)). chosen (if_by choice) (ended (if_by row) t)) (tree_of_last-by last)
      ∙ ap (chosen (if_by choice)) (ended-by row (tree_of_last last))
      ∙ chosen-by choice (ended row (tree_of_last last))

  with_last-by : (stack : List (Frame A)) (choice : Option (Tree A)) (row : Option (Option (Tree A))) (last : Last A)
      → with_last (frames_by stack) (if_by choice) (if_if_by row) (last_by last) ≡ state_if_by (with_last stack choice row last)
  with_last-by stack choice None last = refl
  with_last-by stack choice (Some row) last = refl

  one-more-by : (stack : List (Frame A)) (choice row : Option (Tree A)) (last more : Last A)
      → with_last (frames_by stack) (if_by choice) (begun (if_by row) (last_by last)) (last_by more) ≡ state_if_by (with_last stack choice (begun row last) more)
  one-more-by stack choice row last more =
      ap (λ (r : Option (Option (Tree B))). with_last (frames_by stack) (if_by choice) r (last_by more)) (begun-by row last)
      ∙ with_last-by stack choice (begun row last) more

  name-by : (stack : List (Frame A)) (choice row : Option (Tree A)) (last : Last A) (a : A)
      → with_name (frames_by stack) (if_by choice) (if_by row) (last_by last) (f a) ≡ state_if_by (with_name stack choice row last a)
  name-by stack choice row nothing a = one-more-by stack choice row nothing (extendable (under a))
  name-by stack choice row excluding a = refl
  name-by stack choice row (extendable l) a = one-more-by stack choice row (extendable l) (extendable (under a))
  name-by stack choice row (closed t) a = one-more-by stack choice row (closed t) (extendable (under a))

  caret-by : (last : Last A) → with_caret (last_by last) ≡ last_if_by (with_caret last)
  caret-by (extendable (under a)) = refl
  caret-by (extendable (exact a)) = refl
  caret-by (extendable (climb a)) = refl
  caret-by (extendable (forced a)) = refl
  caret-by (extendable any) = refl
  caret-by (extendable any_climb) = refl
  caret-by (extendable (not_under a)) = refl
  caret-by (extendable (not_exact a)) = refl
  caret-by nothing = refl
  caret-by excluding = refl
  caret-by (closed t) = refl

  equals-by : (last : Last A) → with_equals (last_by last) ≡ last_if_by (with_equals last)
  equals-by (extendable (under a)) = refl
  equals-by (extendable (exact a)) = refl
  equals-by (extendable (climb a)) = refl
  equals-by (extendable (forced a)) = refl
  equals-by (extendable any) = refl
  equals-by (extendable any_climb) = refl
  equals-by (extendable (not_under a)) = refl
  equals-by (extendable (not_exact a)) = refl
  equals-by nothing = refl
  equals-by excluding = refl
  equals-by (closed t) = refl

  extended-by : (stack : List (Frame A)) (choice row : Option (Tree A)) (last : Option (Last A))
      → extended (frames_by stack) (if_by choice) (if_by row) (last_if_by last) ≡ state_if_by (extended stack choice row last)
  extended-by stack choice row None = refl
  extended-by stack choice row (Some last) = refl

  bar-by : (stack : List (Frame A)) (t : Option (Tree A)) → with_bar (frames_by stack) (if_by t) ≡ state_if_by (with_bar stack t)
  bar-by stack None = refl
  bar-by stack (Some t) = refl

  opened-by : (stack : List (Frame A)) (choice : Option (Tree A)) (row : Option (Option (Tree A))) (bracket : Bracket)
      → opened (frames_by stack) (if_by choice) (if_if_by row) bracket ≡ state_if_by (opened stack choice row bracket)
  opened-by stack choice None bracket = refl
  opened-by stack choice (Some row) bracket = refl

  shut-by : (stack : List (Frame A)) (t : Option (Tree A)) (bracket : Bracket) → shut (frames_by stack) (if_by t) bracket ≡ state_if_by (shut stack t bracket)
  shut-by [] None bracket = refl
  shut-by [] (Some t) bracket = refl
  shut-by (frame b choice row ∷ stack) None bracket = refl
  shut-by (frame round choice row ∷ stack) (Some t) round = refl
  shut-by (frame square choice row ∷ stack) (Some t) square = refl
  shut-by (frame round choice row ∷ stack) (Some t) square = refl
  shut-by (frame square choice row ∷ stack) (Some t) round = refl

  repeating-by : (stack : List (Frame A)) (choice row t : Option (Tree A)) (least : ℕ) (most : Option ℕ)
      → repeating (frames_by stack) (if_by choice) (if_by row) (if_by t) least most ≡ state_if_by (repeating stack choice row t least most)
  repeating-by stack choice row None least most = refl
  repeating-by stack choice row (Some t) least most = refl

  pub next-by : (s : State A) (mark : Mark A) → next (state_by s) (mark_by mark) ≡ state_if_by (next s mark)
  next-by (state stack choice row last) (name_of a) = name-by stack choice row last a
  next-by (state stack choice row last) caret =
      ap (extended (frames_by stack) (if_by choice) (if_by row)) (caret-by last) ∙ extended-by stack choice row (with_caret last)
  next-by (state stack choice row last) equals =
      ap (extended (frames_by stack) (if_by choice) (if_by row)) (equals-by last) ∙ extended-by stack choice row (with_equals last)
  next-by (state stack choice row last) dot = one-more-by stack choice row last (extendable any)
  next-by (state stack choice row last) bang = one-more-by stack choice row last excluding
  next-by (state stack choice row last) bar =
      ap (with_bar (frames_by stack)) (finished-by choice row last) ∙ bar-by stack (finished choice row last)
  next-by (state stack choice row last) (opening bracket) =
      ap (λ (r : Option (Option (Tree B))). opened (frames_by stack) (if_by choice) r bracket) (begun-by row last)
      ∙ opened-by stack choice (begun row last) bracket
  next-by (state stack choice row last) (closing bracket) =
      ap (λ (t : Option (Tree B)). shut (frames_by stack) t bracket) (finished-by choice row last) ∙ shut-by stack (finished choice row last) bracket
  next-by (state stack choice row last) (postfix least most) =
      ap (λ (t : Option (Tree B)). repeating (frames_by stack) (if_by choice) (if_by row) t least most) (tree_of_last-by last)
      ∙ repeating-by stack choice row (tree_of_last last) least most

  pub run-by : (o : Option (State A)) (marks : List (Mark A)) → run (state_if_by o) (map mark_by marks) ≡ state_if_by (run o marks)
  run-by o [] = refl
  run-by None (mark ∷ marks) = run-by None marks
  run-by (Some s) (mark ∷ marks) = ap (λ (o : Option (State B)). run o (map mark_by marks)) (next-by s mark) ∙ run-by (next s mark) marks

  named_by-by : (l : Leaf A) → named_by (leaf_by f l) ≡ map f (named_by l)
  named_by-by (under a) = refl
  named_by-by (exact a) = refl
  named_by-by (climb a) = refl
  named_by-by (forced a) = refl
  named_by-by any = refl
  named_by-by any_climb = refl
  named_by-by (not_under a) = refl
  named_by-by (not_exact a) = refl

  map-both : (xs ys : List A) → map f (xs ++ ys) ≡ map f xs ++ map f ys
  map-both [] ys = refl
  map-both (x ∷ xs) ys = ap (λ zs. f x ∷ zs) (map-both xs ys)

  pub named_in-by : (t : Tree A) → named_in (tree_by f t) ≡ map f (named_in t)
  named_in-by (leaf l) = named_by-by l
  named_in-by (cat left right) =
      ap (λ xs. xs ++ named_in (tree_by f right)) (named_in-by left) ∙ ap (λ ys. map f (named_in left) ++ ys) (named_in-by right) ∙ sym (map-both (named_in left) (named_in right))
  named_in-by (alt left right) =
      ap (λ xs. xs ++ named_in (tree_by f right)) (named_in-by left) ∙ ap (λ ys. map f (named_in left) ++ ys) (named_in-by right) ∙ sym (map-both (named_in left) (named_in right))
  named_in-by (rep inner least most) = named_in-by inner
  named_in-by (cap inner) = named_in-by inner

module _ {A : Type 0} where
  abbrev pub named_if : Option (Tree A) → List A
  named_if None = []
  named_if (Some t) = named_in t

  abbrev pub named_last : Last A → List A
  named_last nothing = []
  named_last excluding = []
  named_last (extendable l) = named_by l
  named_last (closed t) = named_in t

  abbrev pub named_frames : List (Frame A) → List A
  named_frames [] = []
  named_frames (frame bracket choice row ∷ stack) = named_frames stack ++ (named_if choice ++ named_if row)

  -- what a state has read names
  abbrev pub named_state : State A → List A
  named_state (state stack choice row last) = named_frames stack ++ (named_if choice ++ (named_if row ++ named_last last))

  abbrev pub named_mark : Mark A → List A
  named_mark (name_of a) = a ∷ []
  named_mark caret = []
  named_mark equals = []
  named_mark dot = []
  named_mark bang = []
  named_mark bar = []
  named_mark (opening bracket) = []
  named_mark (closing bracket) = []
  named_mark (postfix least most) = []

  abbrev pub named_marks : List (Mark A) → List A
  named_marks [] = []
  named_marks (mark ∷ marks) = named_mark mark ++ named_marks marks

  row-named : (row : Option (Tree A)) (t : Tree A) → named_in (row_with row t) ≡ named_if row ++ named_in t
  row-named None t = refl
  row-named (Some left) t = refl

  choice-named : (choice : Option (Tree A)) (t : Tree A) → named_in (choice_with choice t) ≡ named_if choice ++ named_in t
  choice-named None t = refl
  choice-named (Some left) t = refl

  some-state : (s s' : State A) → Some s ≡ Some s' → s ≡ s'
  some-state s s' e = cc

  some-tree : (t u : Tree A) → Some t ≡ Some u → t ≡ u
  some-tree t u e = cc

  last-named : (last : Last A) (t : Tree A) → tree_of_last last ≡ Some t → named_in t ≡ named_last last
  last-named nothing t e = cc
  last-named excluding t e = cc
  last-named (extendable l) t e = ap (λ (u : Tree A). named_in u) (sym (some-tree (leaf l) t e))
  last-named (closed u) t e = ap (λ (u : Tree A). named_in u) (sym (some-tree u t e))

  pub finished-named : (choice row : Option (Tree A)) (last : Last A) (t : Tree A) → finished choice row last ≡ Some t
      → named_in t ≡ named_if choice ++ (named_if row ++ named_last last)
  finished-named choice row nothing t e = cc
  finished-named choice row excluding t e = cc
  finished-named choice row (extendable l) t e =
      ap (λ (u : Tree A). named_in u) (sym (some-tree (choice_with choice (row_with row (leaf l))) t e))
      ∙ choice-named choice (row_with row (leaf l)) ∙ ap (λ xs. named_if choice ++ xs) (row-named row (leaf l))
  finished-named choice row (closed u) t e =
      ap (λ (u : Tree A). named_in u) (sym (some-tree (choice_with choice (row_with row u)) t e))
      ∙ choice-named choice (row_with row u) ∙ ap (λ xs. named_if choice ++ xs) (row-named row u)

  begun-named : (row row' : Option (Tree A)) (last : Last A) → begun row last ≡ Some row' → named_if row' ≡ named_if row ++ named_last last
  begun-named row row' nothing e = let same : row ≡ row' = cc in ap named_if (sym same) ∙ sym (append-nil (named_if row))
  begun-named row row' excluding e = cc
  begun-named row row' (extendable l) e =
      let same : Some (row_with row (leaf l)) ≡ row' = cc in ap named_if (sym same) ∙ row-named row (leaf l)
  begun-named row row' (closed t) e = let same : Some (row_with row t) ≡ row' = cc in ap named_if (sym same) ∙ row-named row t

  -- one more operand that begins
  more-named : (stack : List (Frame A)) (choice row : Option (Tree A)) (last more : Last A) (s : State A)
      → with_last stack choice (begun row last) more ≡ Some s
      → named_state s ≡ named_state (state stack choice row last) ++ named_last more
  more-named stack choice row last more s e = begins (begun row last) refl e
    where
      begins : (r : Option (Option (Tree A))) → begun row last ≡ r → with_last stack choice r more ≡ Some s
          → named_state s ≡ named_state (state stack choice row last) ++ named_last more
      begins None was e' = cc
      begins (Some row') was e' =
          ap named_state (sym (some-state (state stack choice row' more) s e'))
          ∙ ap (λ xs. named_frames stack ++ (named_if choice ++ (xs ++ named_last more))) (begun-named row row' last was)
          ∙ regroup (named_frames stack) (named_if choice) (named_if row) (named_last last) (named_last more)
        where
          regroup : (a b c d e : List A) → a ++ (b ++ ((c ++ d) ++ e)) ≡ (a ++ (b ++ (c ++ d))) ++ e
          regroup a b c d e = simp append_assoc

  goes-named : (stack : List (Frame A)) (choice row : Option (Tree A)) (last longer : Last A) (s : State A) → Some (state stack choice row longer) ≡ Some s
      → named_last longer ≡ named_last last → named_state s ≡ named_state (state stack choice row last) ++ []
  goes-named stack choice row last longer s e same =
      ap named_state (sym (some-state (state stack choice row longer) s e))
      ∙ ap (λ xs. named_frames stack ++ (named_if choice ++ (named_if row ++ xs))) same
      ∙ sym (append-nil (named_state (state stack choice row last)))

  name-named : (stack : List (Frame A)) (choice row : Option (Tree A)) (last : Last A) (a : A) (s : State A) → with_name stack choice row last a ≡ Some s
      → named_state s ≡ named_state (state stack choice row last) ++ a ∷ []
  name-named stack choice row nothing a s e = more-named stack choice row nothing (extendable (under a)) s e
  name-named stack choice row (extendable l) a s e = more-named stack choice row (extendable l) (extendable (under a)) s e
  name-named stack choice row (closed t) a s e = more-named stack choice row (closed t) (extendable (under a)) s e
  name-named stack choice row excluding a s e =
      ap named_state (sym (some-state (state stack choice row (extendable (not_under a))) s e))
      ∙ regroup (named_frames stack) (named_if choice) (named_if row) (a ∷ [])
    where
      regroup : (b c d e : List A) → b ++ (c ++ (d ++ e)) ≡ (b ++ (c ++ (d ++ []))) ++ e
      regroup b c d e = simp (append-nil, append_assoc)

  caret-named : (stack : List (Frame A)) (choice row : Option (Tree A)) (last : Last A) (s : State A) → extended stack choice row (with_caret last) ≡ Some s
      → named_state s ≡ named_state (state stack choice row last) ++ []
  caret-named stack choice row (extendable (under a)) s e = goes-named stack choice row (extendable (under a)) (extendable (climb a)) s e refl
  caret-named stack choice row (extendable any) s e = goes-named stack choice row (extendable any) (extendable any_climb) s e refl
  caret-named stack choice row last s e = cc

  equals-named : (stack : List (Frame A)) (choice row : Option (Tree A)) (last : Last A) (s : State A) → extended stack choice row (with_equals last) ≡ Some s
      → named_state s ≡ named_state (state stack choice row last) ++ []
  equals-named stack choice row (extendable (under a)) s e = goes-named stack choice row (extendable (under a)) (extendable (exact a)) s e refl
  equals-named stack choice row (extendable (climb a)) s e = goes-named stack choice row (extendable (climb a)) (extendable (forced a)) s e refl
  equals-named stack choice row (extendable (not_under a)) s e = goes-named stack choice row (extendable (not_under a)) (extendable (not_exact a)) s e refl
  equals-named stack choice row last s e = cc

  bar-named : (stack : List (Frame A)) (choice row : Option (Tree A)) (last : Last A) (s : State A) → with_bar stack (finished choice row last) ≡ Some s
      → named_state s ≡ named_state (state stack choice row last) ++ []
  bar-named stack choice row last s e = ends (finished choice row last) refl e
    where
      ends : (t : Option (Tree A)) → finished choice row last ≡ t → with_bar stack t ≡ Some s → named_state s ≡ named_state (state stack choice row last) ++ []
      ends None was e' = cc
      ends (Some t) was e' =
          ap named_state (sym (some-state (state stack (Some t) None nothing) s e'))
          ∙ ap (λ xs. named_frames stack ++ xs) (append-nil (named_in t) ∙ finished-named choice row last t was)
          ∙ sym (append-nil (named_state (state stack choice row last)))

  opening-named : (stack : List (Frame A)) (choice row : Option (Tree A)) (last : Last A) (bracket : Bracket) (s : State A)
      → opened stack choice (begun row last) bracket ≡ Some s → named_state s ≡ named_state (state stack choice row last) ++ []
  opening-named stack choice row last bracket s e = begins (begun row last) refl e
    where
      begins : (r : Option (Option (Tree A))) → begun row last ≡ r → opened stack choice r bracket ≡ Some s
          → named_state s ≡ named_state (state stack choice row last) ++ []
      begins None was e' = cc
      begins (Some row') was e' =
          ap named_state (sym (some-state (state (frame bracket choice row' ∷ stack) None None nothing) s e'))
          ∙ ap (λ xs. (named_frames stack ++ (named_if choice ++ xs)) ++ []) (begun-named row row' last was)

  closing-named : (stack : List (Frame A)) (choice row : Option (Tree A)) (last : Last A) (bracket : Bracket) (s : State A)
      → shut stack (finished choice row last) bracket ≡ Some s → named_state s ≡ named_state (state stack choice row last) ++ []
  closing-named stack choice row last bracket s e = ends stack (finished choice row last) refl e
    where
      regroup : (a b c d : List A) → a ++ (b ++ (c ++ d)) ≡ ((a ++ (b ++ c)) ++ d) ++ []
      regroup a b c d = simp (append-nil, append_assoc)

      shuts : (stack : List (Frame A)) (before row-before : Option (Tree A)) (t u : Tree A) → finished choice row last ≡ Some t → named_in u ≡ named_in t
          → Some (state stack before row-before (closed u)) ≡ Some s
          → named_state s ≡ ((named_frames stack ++ (named_if before ++ named_if row-before)) ++ (named_if choice ++ (named_if row ++ named_last last))) ++ []
      shuts stack before row-before t u was same e' =
          ap named_state (sym (some-state (state stack before row-before (closed u)) s e'))
          ∙ ap (λ xs. named_frames stack ++ (named_if before ++ (named_if row-before ++ xs))) (same ∙ finished-named choice row last t was)
          ∙ regroup (named_frames stack) (named_if before) (named_if row-before) (named_if choice ++ (named_if row ++ named_last last))

      ends : (stack : List (Frame A)) (t : Option (Tree A)) → finished choice row last ≡ t → shut stack t bracket ≡ Some s
          → named_state s ≡ named_state (state stack choice row last) ++ []
      ends [] None was e' = cc
      ends (f ∷ stack) None was e' = cc
      ends [] (Some t) was e' = cc
      ends (frame b before row-before ∷ stack) (Some t) was e' = bracketed b bracket refl e'
        where
          bracketed : (b c : Bracket) → c ≡ bracket → shut (frame b before row-before ∷ stack) (Some t) c ≡ Some s
              → named_state s ≡ named_state (state (frame b before row-before ∷ stack) choice row last) ++ []
          bracketed round round is e2 = shuts stack before row-before t (cap t) was refl e2
          bracketed square square is e2 = shuts stack before row-before t t was refl e2
          bracketed round square is e2 = cc
          bracketed square round is e2 = cc

  postfix-named : (stack : List (Frame A)) (choice row : Option (Tree A)) (last : Last A) (least : ℕ) (most : Option ℕ) (s : State A)
      → repeating stack choice row (tree_of_last last) least most ≡ Some s → named_state s ≡ named_state (state stack choice row last) ++ []
  postfix-named stack choice row last least most s e = ends (tree_of_last last) refl e
    where
      ends : (t : Option (Tree A)) → tree_of_last last ≡ t → repeating stack choice row t least most ≡ Some s
          → named_state s ≡ named_state (state stack choice row last) ++ []
      ends None was e' = cc
      ends (Some t) was e' = goes-named stack choice row last (closed (rep t least most)) s e' (last-named last t was)

  pub next-named : (s s' : State A) (mark : Mark A) → next s mark ≡ Some s' → named_state s' ≡ named_state s ++ named_mark mark
  next-named (state stack choice row last) s' (name_of a) e = name-named stack choice row last a s' e
  next-named (state stack choice row last) s' caret e = caret-named stack choice row last s' e
  next-named (state stack choice row last) s' equals e = equals-named stack choice row last s' e
  next-named (state stack choice row last) s' dot e = more-named stack choice row last (extendable any) s' e
  next-named (state stack choice row last) s' bang e = more-named stack choice row last excluding s' e
  next-named (state stack choice row last) s' bar e = bar-named stack choice row last s' e
  next-named (state stack choice row last) s' (opening bracket) e = opening-named stack choice row last bracket s' e
  next-named (state stack choice row last) s' (closing bracket) e = closing-named stack choice row last bracket s' e
  next-named (state stack choice row last) s' (postfix least most) e = postfix-named stack choice row last least most s' e

  pub run-named : (s s' : State A) (marks : List (Mark A)) → run (Some s) marks ≡ Some s' → named_state s' ≡ named_state s ++ named_marks marks
  run-named s s' [] e = ap named_state (sym (some-state s s' e)) ∙ sym (append-nil (named_state s))
  run-named s s' (mark ∷ marks) e = goes (λ s2 ran. run-named s2 s' marks ran) (next s mark) refl e
    where
      goes : ((s2 : State A) → run (Some s2) marks ≡ Some s' → named_state s' ≡ named_state s2 ++ named_marks marks)
          → (o : Option (State A)) → next s mark ≡ o → run o marks ≡ Some s' → named_state s' ≡ named_state s ++ (named_mark mark ++ named_marks marks)
      goes further None was ran = let none = run-none marks in cc
      goes further (Some s2) was ran =
          further s2 ran ∙ ap (λ xs. xs ++ named_marks marks) (next-named s s2 mark was) ∙ append_assoc (named_state s) (named_mark mark) (named_marks marks)

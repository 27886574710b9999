-- The first token that has a property, one token on.
use Rattle.std.proofs.Common.{◌≡◌, ℕ, ◌+◌, ◌<◌, ◌≤◌, inl, inr, Option, Some, None, List, [], ◌∷◌, ◌++◌, length, take, drop, get_or, refl, sym, ap, ◌∙◌, subst, append_assoc}
use Rattle.std.specs.Option.{option_or}
use Rattle.std.proofs.lemmas.List.{take_more, drop_more, take-append-drop, append-nil, take_all}
use Rattle.mine_model.specs.First.{FirstAmong}
use Rattle.patex_parser.specs.declared.token.ReadToken.{ReadToken}
use Rattle.patex_parser.specs.Checking.{HasAt, IsFirstRead, NoneHas, TellsFirst, IsOf}
use Rattle.patex_parser.specs.Reading.{IsMarked}
use Rattle.patex_parser.specs.declared.token.Kind.{Kind}
use Rattle.patex_parser.specs.declared.token.Kind.TheVariants.{Mark, BadRepeat, BeyondLimit}
use Rattle.patex_parser.specs.declared.token.Mark.TheVariants.{Name}
use Rattle.std.specs.List.{AllByRecursion}

pub none-push : (Has : List ReadToken → ReadToken → Type 0) (before reads : List ReadToken) (read : ReadToken) → NoneHas Has before reads
    → (Has (before ++ reads) read → ⊥) → NoneHas Has before (reads ++ read ∷ [])
none-push Has before [] read none not = (λ has. not (subst (λ xs. Has xs read) (sym (append-nil before)) has), tt)
none-push Has before (r ∷ reads) read none not =
    (none.0, none-push Has (before ++ r ∷ []) reads read none.1 λ has. not (subst (λ xs. Has xs read) (append_assoc before (r ∷ []) reads) has))

-- behind tokens that have it not, the next that has it is the first
pub first-behind : (Has : List ReadToken → ReadToken → Type 0) (before reads : List ReadToken) (read : ReadToken) (after : List ReadToken)
    → NoneHas Has before reads → Has (before ++ reads) read → FirstAmong (HasAt Has) before (reads ++ read ∷ after) read.column
first-behind Has before [] read after none has = inl (subst (λ xs. Has xs read) (append-nil before) has, refl)
first-behind Has before (r ∷ reads) read after none has =
    inr (λ column has'. none.0 has'.0, first-behind Has (before ++ r ∷ []) reads read after none.1 (subst (λ xs. Has xs read) (sym (append_assoc before (r ∷ []) reads)) has))

-- further tokens change nothing of which is the first
pub first-more : (Has : List ReadToken → ReadToken → Type 0) (before reads more : List ReadToken) (column : ℕ)
    → FirstAmong (HasAt Has) before reads column → FirstAmong (HasAt Has) before (reads ++ more) column
first-more Has before [] more column first = absurd first
first-more Has before (r ∷ reads) more column (inl has) = inl has
first-more Has before (r ∷ reads) more column (inr later) = inr (later.0, first-more Has (before ++ r ∷ []) reads more column later.1)

pub none-first : (Has : List ReadToken → ReadToken → Type 0) (before reads : List ReadToken) (column : ℕ)
    → NoneHas Has before reads → FirstAmong (HasAt Has) before reads column → ⊥
none-first Has before [] column none first = first
none-first Has before (r ∷ reads) column none (inl has) = none.0 has.0
none-first Has before (r ∷ reads) column none (inr later) = none-first Has (before ++ r ∷ []) reads column none.1 later.1

-- one token on in a walk over all of them
pub one-on : (reads : List ReadToken) (i : ℕ) (read d : ReadToken) → i < length reads → read ≡ get_or reads i d → take (i + 1) reads ≡ take i reads ++ read ∷ []
one-on reads i read d less is = take_more reads i d less ∙ ap (λ r. take i reads ++ r ∷ []) (sym is)

pub cut-here : (reads : List ReadToken) (i : ℕ) (read d : ReadToken) → i < length reads → read ≡ get_or reads i d → reads ≡ take i reads ++ read ∷ drop (i + 1) reads
cut-here reads i read d less is =
    sym (take-append-drop i reads) ∙ ap (λ xs. take i reads ++ xs) (drop_more reads i d less) ∙ ap (λ r. take i reads ++ r ∷ drop (i + 1) reads) (sym is)

pub none-on : (Has : List ReadToken → ReadToken → Type 0) (reads : List ReadToken) (i : ℕ) (read d : ReadToken) → i < length reads → read ≡ get_or reads i d
    → NoneHas Has [] (take i reads) → (Has (take i reads) read → ⊥) → NoneHas Has [] (take (i + 1) reads)
none-on Has reads i read d less is none not = subst (NoneHas Has []) (sym (one-on reads i read d less is)) (none-push Has [] (take i reads) read none not)

pub first-here : (Has : List ReadToken → ReadToken → Type 0) (reads : List ReadToken) (i : ℕ) (read d : ReadToken) → i < length reads → read ≡ get_or reads i d
    → NoneHas Has [] (take i reads) → Has (take i reads) read → IsFirstRead Has reads read.column
first-here Has reads i read d less is none has =
    subst (λ xs. FirstAmong (HasAt Has) [] xs read.column) (sym (cut-here reads i read d less is)) (first-behind Has [] (take i reads) read (drop (i + 1) reads) none has)

pub tells-none-on : (Has : List ReadToken → ReadToken → Type 0) (reads : List ReadToken) (i : ℕ) (read d : ReadToken) (told : Option ℕ) → i < length reads → read ≡ get_or reads i d
    → TellsFirst Has (take i reads) told → (Has (take i reads) read → ⊥) → TellsFirst Has (take (i + 1) reads) told
tells-none-on Has reads i read d None less is told not = none-on Has reads i read d less is told not
tells-none-on Has reads i read d (Some column) less is told not =
    subst (λ xs. IsFirstRead Has xs column) (sym (one-on reads i read d less is)) (first-more Has [] (take i reads) (read ∷ []) column told)

pub tells-on : (Has : List ReadToken → ReadToken → Type 0) (reads : List ReadToken) (i : ℕ) (read d : ReadToken) (told told' : Option ℕ) → i < length reads → read ≡ get_or reads i d
    → TellsFirst Has (take i reads) told → Has (take i reads) read → told' ≡ option_or told (Some read.column) → TellsFirst Has (take (i + 1) reads) told'
tells-on Has reads i read d None told' less is told has same =
    subst (TellsFirst Has (take (i + 1) reads)) (sym same)
    (subst (λ xs. IsFirstRead Has xs read.column) (sym (one-on reads i read d less is)) (first-behind Has [] (take i reads) read [] told has))
tells-on Has reads i read d (Some column) told' less is told has same =
    subst (TellsFirst Has (take (i + 1) reads)) (sym same)
    (subst (λ xs. IsFirstRead Has xs column) (sym (one-on reads i read d less is)) (first-more Has [] (take i reads) (read ∷ []) column told))

-- what stands for no token
abbrev pub no_token : ReadToken
no_token = record { column = 0; kind = Mark (Name (record { 0 = 0 })) }

marked : (read : ReadToken) (kind : Kind) → read.kind ≡ kind → (read.kind ≡ BadRepeat → ⊥) → (read.kind ≡ BeyondLimit → ⊥) → IsMarked read
marked read (Mark mark) is none none' = (mark, is)
marked read BadRepeat is none none' = absurd (none is)
marked read BeyondLimit is none none' = absurd (none' is)

pub all-are-marked : (before reads : List ReadToken) → NoneHas (IsOf BadRepeat) before reads → NoneHas (IsOf BeyondLimit) before reads → AllByRecursion IsMarked reads
all-are-marked before [] none none' = tt
all-are-marked before (r ∷ reads) none none' = (marked r r.kind refl none.0 none'.0, all-are-marked (before ++ r ∷ []) reads none.1 none'.1)

-- a walk over all of them has come to its end
pub whole-walk : (reads : List ReadToken) (i : ℕ) → length reads ≤ i → take i reads ≡ reads
whole-walk reads i all = take_all i reads all

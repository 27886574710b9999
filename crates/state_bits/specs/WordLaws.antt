-- A set's number gives its words back.
use Rattle.std.specs.Prelude.{◌≡◌, ℕ, suc, ◌^◌, ◌<◌, List, [], ◌∷◌, length, refl}
use Rattle.std.proofs.Common.{get_or, ap, subst}
use Rattle.std.proofs.lemmas.Nat.{mod-mul-add, div-mul-add}
use Rattle.state_bits.specs.Members.{words_of}
use Rattle.state_bits.specs.Words.{joined, AreWords}

pub words_of-joined : (words : List ℕ) → ((k : ℕ) → get_or words k 0 < 2 ^ 64)
    → words_of (length words) (joined words) ≡ words
unfolding joined words_of
words_of-joined [] fit = refl
words_of-joined (word ∷ words) fit =
    rw (mod-mul-add (joined words) (2 ^ 64) word (fit 0), div-mul-add (joined words) (2 ^ 64) word (fit 0))
    (ap (λ ws. word ∷ ws) (words_of-joined words (λ k. fit (suc k))))

-- for words of a set
pub words_of_set : (width : ℕ) (words : List ℕ) → AreWords width words → words_of width (joined words) ≡ words
words_of_set width words are = subst (λ
    (n : ℕ). words_of n (joined words) ≡ words) are.long (words_of-joined words are.fit)

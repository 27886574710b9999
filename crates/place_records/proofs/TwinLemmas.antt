-- What a place does, from the words of its class and of the triple behind it.
use Rattle.std.proofs.Common.{◌≡◌, ℕ, ◌+◌, ◌<◌, ◌≤◌, ◌⊎◌, ◌↔◌, inl, inr, Bool, true, false, ◌&&◌, List, refl, arith}
use Rattle.std.proofs.lemmas.Bool.{cases_eq, and_parts}
use Rattle.state_bits.specs.Members.{Has, HasBit}
use Rattle.state_bits.proofs.NeighbourLemmas.{Has-none}
use Rattle.sequence_grids.specs.declared.table.Words.{Words}
use Rattle.sequence_grids.specs.Tables.{ClassSets, TripleSets, continuing}
use Rattle.sequence_grids.specs.Words.{AreWordsOf, AreClassWords, AreTripleWords}
use Rattle.walk_memo.specs.Moves.{MoveSets, move_sets}
use Rattle.walk_memo.proofs.MemoLemmas.{same_move, move_eq}
use Rattle.place_records.specs.declared.twin.Twin.{Twin}
use Rattle.place_records.specs.Twins.{twin_sets, IsMoveOf, AreTargets, words_for}

-- the members whose bits the words have
abbrev pub IsCut : ℕ → List ℕ → ℕ → Type 0
IsCut set words found = (k : ℕ) → Has found k ↔ (Has set k × HasBit words k)

module _ (states : ℕ) (class : ClassSets) (behind : TripleSets) (words : Words) (of_class : AreClassWords states class words) (of_triple : AreTripleWords states behind words) where
  words_of_continuing : (seen : Bool) → AreWordsOf states (continuing behind seen) (words_for words seen)
  words_of_continuing true = of_triple.more
  words_of_continuing false = of_triple.unseen

  module _ (targets silent written writes : ℕ) (are : AreTargets states targets) (silent_is : IsCut targets words.silent.now silent) (written_is : IsCut targets words.writing.now written)
      (writes_is : IsCut written words.seen.now writes) where
    in_writes : (k : ℕ) → k < states → Has writes k → Has class.writes k × Has behind.seen k
    in_writes k below has =
        let (before, bit) = (writes_is k).0 has in
        let (target, of) = (written_is k).0 before in
        ((of_class.writing k below).0 of, (of_triple.seen k below).0 bit)

    of_writes : (k : ℕ) → 1 ≤ k → k < states → Has class.writes k × Has behind.seen k → Has writes k
    of_writes k least below (writing, seen) =
        (writes_is k).1 ((written_is k).1 ((are k).1 (least, below), (of_class.writing k below).1 writing), (of_triple.seen k below).1 seen)

    -- the members of a cut set whose bits are those of another set
    of_cut : (set found other : ℕ) (ws : List ℕ) (k : ℕ) → k < states → IsCut set ws found → AreWordsOf states other ws → Has found k ↔ (Has set k × Has other k)
    of_cut set found other ws k below cut bits = (
      (λ has. let (there, bit) = (cut k).0 has in (there, (bits k below).0 bit)),
      (λ h. (cut k).1 (h.0, (bits k below).1 h.1)),
    )

    pub move_is : (needed goes : Bool) (move : MoveSets) → move.writes ≡ writes → IsCut silent (words_for words goes) move.silent → IsCut writes (words_for words needed) move.more
        → IsCut writes words.unseen.now move.unseen → IsCut writes words.ending.now move.ends
        → (k : ℕ) → 1 ≤ k → k < states → IsMoveOf needed goes class behind move k
    move_is needed goes move same goes_on more unseen ends k least below = record {
      silent = (
        (λ has.
            let (there, bit) = (goes_on k).0 has in
            let (target, of) = (silent_is k).0 there in
            ((of_class.silent k below).0 of, (words_of_continuing goes k below).0 bit)),
        (λ h. (goes_on k).1 ((silent_is k).1 ((are k).1 (least, below), (of_class.silent k below).1 h.0), (words_of_continuing goes k below).1 h.1)),
      );
      writes = rw same ((λ has. in_writes k below has), (λ h. of_writes k least below h));
      more = rw same (of_cut writes move.more (continuing behind needed) (words_for words needed) k below more (words_of_continuing needed));
      unseen = rw same (of_cut writes move.unseen behind.unseen words.unseen.now k below unseen of_triple.unseen);
      ends = rw same (of_cut writes move.ends behind.ends words.ending.now k below ends of_triple.ending);
    }

-- ---- the states that edges lead into

pub targets-none : AreTargets 1 0
targets-none k = ((λ has. absurd (Has-none k has)), (λ h. absurd (omega (arith, h.0, h.1))))

pub targets-more : (targets after next : ℕ) → 1 ≤ next → AreTargets next targets → ((r : ℕ) → Has after r ↔ (Has targets r ⊎ (r ≡ next))) → AreTargets (next + 1) after
targets-more targets after next least are added k = (
  (λ has. elim ((added k).0 has) [
    | inl had ↦ let (low, high) = (are k).0 had in (low, omega (arith, high))
    | inr same ↦ (omega (arith, same, least), omega (arith, same))
  ]),
  (λ h. elim (cases_eq k next) [
    | inl same ↦ (added k).1 (inr same)
    | inr other ↦ (added k).1 (inl ((are k).1 (h.0, omega (arith, h.1, other))))
  ]),
)

-- ---- twins that are the same

abbrev pub twin_eq : {W : ℕ} → Twin W → Twin W → Bool
twin_eq {W} a b = move_eq {W = W} a.early b.early && move_eq {W = W} a.late b.late

pub same_twin : {W : ℕ} (a b : Twin W) → twin_eq a b ≡ true → twin_sets a ≡ twin_sets b
same_twin {W} a b same =
    let both = and_parts _ _ same in
    let early : move_sets a.early ≡ move_sets b.early = same_move {W = W} a.early b.early both.0 in
    let late : move_sets a.late ≡ move_sets b.late = same_move {W = W} a.late b.late both.1 in
    rw (early, late) refl

-- Which pages have their own copy after words are written.
use Rattle.std.proofs.Common.{◌≡◌, ◌≢◌, inl, inr, ℕ, ◌+◌, ◌-◌, ◌/◌, ◌<◌, ◌≤◌, ◌&&◌, ◌||◌, nat_le, nat_lt, Bool, true, false, List, length, set, take, slice_index_or, arith, refl, sym, ap, ◌∙◌}
use Rattle.std.proofs.lemmas.Bool.{cases_eq}
use Rattle.std.proofs.lemmas.List.{get_or-set_same, get_or-set_other, get_or-take, length-take}
use Rattle.std.proofs.lemmas.List.FromFn.{fill_by_all}
use Rattle.domain_pages.specs.Frames.{has_some, with_own}

-- the pages of some words are those from the page of the first word to the page of the last
pub has_between : (start count page : ℕ) → 0 < count → has_some start count page ≡ (nat_le (start / 64) page && nat_lt page ((start + count - 1) / 64 + 1))
has_between start count page some = grind arith

-- the page of one of the words
pub has_here : (start count k : ℕ) → start ≤ k → k < start + count → has_some start count (k / 64) ≡ true
has_here start count k low high = grind arith

page_before : (first page end : ℕ) → (nat_le first page && nat_lt page end) ≡ true → page < end
page_before first page end is = grind arith

-- the page of one of the words is before the end of the pages
pub before_end : (start count end k : ℕ) → ((page : ℕ) → has_some start count page ≡ (nat_le (start / 64) page && nat_lt page end)) → start ≤ k → k < start + count → k / 64 < end
before_end start count end k pages low high = page_before (start / 64) (k / 64) end (sym (pages (k / 64)) ∙ has_here start count k low high)

-- which pages have a frame in the table now: those from `first` on and below `end`, and those that had one before
abbrev pub AreOwned : List Bool → List Bool → ℕ → ℕ → Type 0
AreOwned old now first end =
    (page : ℕ) → page < 128 → slice_index_or now page false ≡ ((nat_le first page && nat_lt page end) || slice_index_or old page false)

none_between : (first page : ℕ) → (nat_le first page && nat_lt page first) ≡ false
none_between first page = grind arith

pub owned_begins : (old : List Bool) (first : ℕ) → AreOwned old old first first
owned_begins old first page low = rw (none_between first page) refl

here_between : (first at : ℕ) → first ≤ at → (nat_le first at && nat_lt at (at + 1)) ≡ true
here_between first at low = grind arith

other_between : (first at page : ℕ) → page ≢ at → (nat_le first page && nat_lt page at) ≡ (nat_le first page && nat_lt page (at + 1))
other_between first at page other = grind arith

-- another page has got its frame
pub owned_more : (old now : List Bool) (first at : ℕ) → first ≤ at → at < length now → AreOwned old now first at → AreOwned old (set now at true) first (at + 1)
owned_more old now first at low within owned page lt = elim (cases_eq page at) [
  | inl same ↦ rw (same, here_between first at low) (get_or-set_same now at true false within)
  | inr other ↦
      get_or-set_other now at page true false other
      ∙ owned page lt
      ∙ ap (λ b. b || slice_index_or old page false) (other_between first at page other)
]

-- which pages have a frame after words are written
abbrev pub AreMarked : List Bool → List Bool → ℕ → ℕ → Type 0
AreMarked old now start count =
    (page : ℕ) → page < 128 → slice_index_or now page false ≡ (has_some start count page || slice_index_or old page false)

pub own_of_all : (old now : List Bool) (start count : ℕ) → length now ≡ 128 → AreMarked old now start count → take 115 now ≡ with_own start count (take 115 old)
unfolding with_own
own_of_all old now start count size marked =
    fill_by_all (λ page. has_some start count page || slice_index_or (take 115 old) page false) (take 115 now) 115 false (omega (arith, length-take 115 now, size)) (λ page low.
    get_or-take 115 now page false low
    ∙ marked page (omega arith)
    ∙ ap (λ b. has_some start count page || b) (sym (get_or-take 115 old page false low)))

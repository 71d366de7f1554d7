-- How a step changes the view of the seat that takes it. Fields that are not named stay the same.
use Rattle.std.specs.Prelude.{List, [], ◌∷◌, ◌++◌, length, true, false, cond, nat_lt, Some, None}
use Rattle.shares.specs.Shares.{half, whole}
use Rattle.turn_lock.specs.declared.view.View.{View}

-- the longer of two lists; the first if they have the same length
abbrev pub longer : {E : Type 0} → List E → List E → List E
longer xs ys = cond (nat_lt (length xs) (length ys)) ys xs

-- the other one
abbrev pub shorter : {E : Type 0} → List E → List E → List E
shorter xs ys = cond (nat_lt (length xs) (length ys)) xs ys

module _ {E O : Type 0} where
  -- the first seat of a turn whose value has these entries and this origin: it has the whole share
  abbrev pub opener : List E → O → View E O
  opener all home = record {
    origin = Some home;
    seen = all;
    pending = [];
    made = [];
    start = length all;
    share = whole;
    has = false;
    taken = [];
  }

  -- it took a value with these entries
  abbrev pub took : View E O → List E → View E O
  took v all = record v { has = true; taken = all }

  -- it committed one entry; these are all entries after that
  abbrev pub committed : View E O → List E → View E O
  committed v all = record v { seen = all; made = v.made ++ length all ∷ []; taken = all }

  -- it gave the turn back, and has seen what it had taken or committed
  abbrev pub gave : View E O → View E O
  gave v = record v { seen = v.taken; has = false; taken = [] }

  -- it gave half of its share to a new seat
  abbrev pub halved : View E O → View E O
  halved v = record v { share = half false v.share }

  -- a new seat, split from one with the view v: it has seen the same, made nothing, and has the other half of the share
  abbrev pub newcomer : View E O → View E O
  newcomer v = record {
    origin = v.origin;
    seen = v.seen;
    pending = [];
    made = [];
    start = v.start;
    share = half true v.share;
    has = false;
    taken = [];
  }

  -- a seat that was joined into another: it has no share left
  abbrev pub spent : View E O
  spent = record { origin = None; seen = []; pending = []; made = []; start = 0; share = []; has = false; taken = [] }

  -- a seat with the view w was joined into it: it has seen the longer list, and has what both made and both shares
  abbrev pub joined : View E O → View E O → View E O
  joined v w = record v {
    seen = longer v.seen w.seen;
    pending = shorter v.seen w.seen;
    made = v.made ++ w.made;
    share = v.share ++ w.share;
  }

  -- it knows that its pending list is a prefix of what it has seen
  abbrev pub learnt : View E O → View E O
  learnt v = record v { pending = [] }

-- File walks as words. All words stand for one.
use Rattle.std.specs.Prelude.{List, ℕ, get_or}
use Rattle.signed.specs.Words.{cast_signed}
use Rattle.visits.specs.declared.file_walks.FileWalk.{FileWalk}

-- the walk that words stand for: its fields, one after the other, the edges in two's complement
abbrev pub walk_of : List ℕ → FileWalk
walk_of ws = record {
  number = get_or ws 0 0;
  planned = record {
    next = get_or ws 1 0;
    region = record { left = cast_signed (get_or ws 2 0); top = cast_signed (get_or ws 3 0); width = get_or ws 4 0; height = get_or ws 5 0 };
    shift = record { x = get_or ws 6 0; y = get_or ws 7 0 };
    count = get_or ws 8 0;
  };
  index = get_or ws 9 0;
  links = get_or ws 10 0;
}

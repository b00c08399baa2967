-- `groups::put_byte`: setting an element is putting a text of one byte.
-- Assumes nothing.
use mathlib.Core.Path.{refl}
use Rattle.text.proofs.Puts.{put_one}
use Rattle.text.proofs.groups.put_byte.Goals as goal

pub returns : goal.returns
returns c =
    record {
      end = refl;
      text = put_one c.args.out.now c.args.at c.args.b c.requires;
    }

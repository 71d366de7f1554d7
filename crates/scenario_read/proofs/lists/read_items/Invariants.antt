use Rattle.std.proofs.Common.{◌≡◌, [], drop}
use Rattle.serde_json.specs.View.{items_view}
use Rattle.input_defs.specs.Reading.{items_from}
use Rattle.scenario_read.proofs.lists.read_items.Given as goal

abbrev pub invariant-loop-value : goal.invariant-loop-value
invariant-loop-value g l = record {
  counted : l.index ≡ l.value-index;
  read : items_from (g.R.ItemReader.item_of l.reader) l.items l.index (items_view (drop l.value-index l.values))
      ≡ items_from (g.R.ItemReader.item_of l.reader) [] 0 (items_view l.values);
}

-- What a word is as the key of a dict, as the machine has it. No clause of a public function cites this module.
use Rattle.c_core.specs.Keys.{Key, NumberKey, TextKey, TruthKey}
use Rattle.cell_heap.specs.declared.dicts.DictKey.{DictKey}
use Rattle.cell_heap.specs.declared.dicts.DictKey.TheVariants.{Number, Text, Truth}

abbrev pub key_seen : DictKey → Key
key_seen (Number n) = NumberKey n
key_seen (Text text) = TextKey text.now
key_seen (Truth b) = TruthKey b

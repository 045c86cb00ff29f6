-- A heap by numbers: the machine's cells, in which each name is the serial that it tells, and no slot is seen.
use Rattle.std.specs.Prelude.{map}
use Rattle.std.specs.Option.{option_map}
use Rattle.c_core.specs.Cells.{Cell, Cells}
use Rattle.c_core.specs.Machine.{Word, ShortInt, BigInt, TaggedError, Native, CharWord, NoneObject, TrueObject, FalseObject, ObjectCell, NoObject, Content, IntCell, StrCell, ListCell, DictCell, TupleCell, InstCell, ExcCell}
use Rattle.cell_heap.specs.Contents.{serial_in}
use Rattle.cell_heap.specs.Placed.{Placed}

abbrev pub word_numbered : Word → Word
word_numbered (ShortInt n) = ShortInt n
word_numbered (BigInt name) = BigInt (serial_in name)
word_numbered TaggedError = TaggedError
word_numbered (Native n) = Native n
word_numbered (CharWord n) = CharWord n
word_numbered (ObjectCell name) = ObjectCell (serial_in name)
word_numbered NoneObject = NoneObject
word_numbered TrueObject = TrueObject
word_numbered FalseObject = FalseObject
word_numbered NoObject = NoObject

abbrev pub pair_numbered : Word × Word → Word × Word
pair_numbered p = (word_numbered p.0, word_numbered p.1)

abbrev pub content_numbered : Content → Content
content_numbered (IntCell n) = IntCell n
content_numbered (StrCell text) = StrCell text
content_numbered (ListCell items) = ListCell (map word_numbered items)
content_numbered (DictCell pairs) = DictCell (map pair_numbered pairs)
content_numbered (TupleCell items) = TupleCell (map word_numbered items)
content_numbered (InstCell class attributes) = InstCell class (map (option_map word_numbered) attributes)
content_numbered (ExcCell e) = ExcCell e

abbrev pub cell_numbered : Cell Placed → Cell Content
cell_numbered cell = record { count = cell.count; content = content_numbered cell.content.holds }

abbrev pub numbered : Cells Placed → Cells Content
numbered = map (option_map cell_numbered)

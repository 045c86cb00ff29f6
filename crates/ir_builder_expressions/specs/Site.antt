-- What a place in a function stands in.
use Rattle.ir_builder_frames.specs.Settings.{Setting, setting}
use Rattle.ir_builder_expressions.specs.declared.site.Site.{Site}

abbrev pub setting_of : Site → Setting
setting_of s = setting s.checked.now s.locals.now s.frame

-- How a configuration spells its keys.
use Rattle.std.specs.Prelude.{ℕ, List, codes}
use Rattle.ept_config_text.specs.declared.config_key.ConfigKey.{ConfigKey}
use Rattle.ept_config_text.specs.declared.config_key.ConfigKey.TheVariants.{Top, Input, Scale, Offset, Bounds, Span, MinNodeSize, MaxDepth, HierarchyStep, Srs, FirstClasses, WithheldLast, Threads, CacheSize, MaxNodes, Checkpoint}

abbrev pub name_of : ConfigKey → List ℕ
name_of Top = codes "top"
name_of Input = codes "input"
name_of Scale = codes "scale"
name_of Offset = codes "offset"
name_of Bounds = codes "bounds"
name_of Span = codes "span"
name_of MinNodeSize = codes "minNodeSize"
name_of MaxDepth = codes "maxDepth"
name_of HierarchyStep = codes "hierarchyStep"
name_of Srs = codes "srs"
name_of FirstClasses = codes "firstClasses"
name_of WithheldLast = codes "withheldLast"
name_of Threads = codes "threads"
name_of CacheSize = codes "cacheSize"
name_of MaxNodes = codes "maxNodes"
name_of Checkpoint = codes "checkpoint"

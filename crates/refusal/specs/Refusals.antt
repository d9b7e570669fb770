-- The number and the layer of each ground of refusal.
use Rattle.std.specs.Prelude.{ℕ}
use Rattle.refusal.specs.declared.Ground.{Ground}
use Rattle.refusal.specs.declared.Ground.TheVariants.{BadCapacity, Ended, NotBegun, BadName, TooDeep, Full, OtherName, NoNode, BadEntry, TooSmall, LongText, NotPath, UnknownAxis, LongName, UnknownName, TooManySteps, BadLine, BadTable, NotEmpty, BadRecord}
use Rattle.refusal.specs.declared.Layer.{Layer}
use Rattle.refusal.specs.declared.Layer.TheVariants as layer
use Rattle.refusal.specs.declared.Refusal.{Refusal}

abbrev pub number_of : Ground → ℕ
number_of BadCapacity = 1
number_of Ended = 2
number_of NotBegun = 3
number_of BadName = 4
number_of TooDeep = 5
number_of Full = 6
number_of OtherName = 7
number_of NoNode = 8
number_of BadEntry = 9
number_of TooSmall = 10
number_of LongText = 11
number_of NotPath = 12
number_of UnknownAxis = 13
number_of LongName = 14
number_of UnknownName = 15
number_of TooManySteps = 16
number_of BadLine = 17
number_of BadTable = 18
number_of NotEmpty = 19
number_of BadRecord = 20

abbrev pub layer_of : Ground → Layer
layer_of BadCapacity = layer.Source
layer_of Ended = layer.Source
layer_of NotBegun = layer.Source
layer_of BadName = layer.Source
layer_of TooDeep = layer.Source
layer_of Full = layer.Source
layer_of OtherName = layer.Source
layer_of NoNode = layer.Source
layer_of BadEntry = layer.List
layer_of TooSmall = layer.List
layer_of LongText = layer.Path
layer_of NotPath = layer.Path
layer_of UnknownAxis = layer.Path
layer_of LongName = layer.Path
layer_of UnknownName = layer.Path
layer_of TooManySteps = layer.Path
layer_of BadLine = layer.Names
layer_of BadTable = layer.Table
layer_of NotEmpty = layer.Run
layer_of BadRecord = layer.Feed

abbrev pub refusal : (ground : Ground) (place : ℕ) → Refusal
refusal g p = record { ground = g; place = p }

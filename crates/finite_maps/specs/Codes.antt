-- Codes of finite maps, by which a record that has them may be the value of a model.
use Rattle.std.specs.Coded.{Coded, coded_list, coded×}
use base.Stored.{coded_via}
use Rattle.finite_maps.specs.Map.{Order, Map, same_list}

-- a map's code is that of its entries
abbrev pub map_code : {K X : Type 0} (o : Order K) → Coded K → Coded X → Coded (Map o X)
map_code o k x = coded_via (coded_list (coded× k x)) (λ m. m.list) same_list

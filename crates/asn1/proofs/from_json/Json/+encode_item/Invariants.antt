use Rattle.asn1.proofs.from_json.Json.+encode_item.Given as goal

abbrev pub decreases-encode_item : goal.decreases-encode_item
decreases-encode_item l = l.depth

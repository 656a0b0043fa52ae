-- SCOPE, kind 8: the 183 codes of `currency.rs`, line by line and in its order, and the rule over them.
use Rattle.std.specs.Prelude.{ℕ, List, [], ◌∷◌}
use Rattle.answer.specs.Result.{Answer}
use Rattle.codes.specs.Codes.{codes_of, code_rule}

unfoldable pub currencies : List (List ℕ)
currencies =
    codes_of
    ("AED AFN ALL AMD ANG AOA ARS AUD AWG AZN BAM BBD BDT"
    ∷ "BGN BHD BMD BND BOB BOV BRL BSD BTN BWP BYN BZD CAD"
    ∷ "CDF CHE CHF CHW CLF CLP CNY COP COU CRC CUP CVE CZK"
    ∷ "DJF DKK DOP DZD EGP ERN ETB EUR FJD FKP GBP GEL GHS"
    ∷ "GIP GMD GNF GTQ GYD HKD HNL HTG HUF IDR ILS INR IQD"
    ∷ "IRR ISK JMD JOD JPY KES KGS KHR KMF KPW KRW KWD KYD"
    ∷ "KZT LAK LBP LKR LRD LSL LYD MAD MDL MGA MKD MMK MNT"
    ∷ "MOP MRU MUR MVR MWK MXN MXV MYR MZN NAD NGN NIO NOK"
    ∷ "NPR NZD OMR PAB PEN PGK PHP PKR PLN PYG QAR RON RSD"
    ∷ "RUB RWF SAR SBD SCR SDG SEK SGD SHP SLE SOS SRD SSP"
    ∷ "STN SVC SYP SZL THB TJS TMT TND TOP TRY TTD TWD TZS"
    ∷ "UAH UGX USD USN UYI UYU UYW UZS VED VES VND VUV WST"
    ∷ "XAF XAG XAU XBA XBB XBC XBD XCD XDR XOF XPD XPF XPT"
    ∷ "XSU XTS XUA XXX YER ZAR ZMW ZWG"
    ∷ "HRK SLL STD VEF MRO BYR"  -- historical codes that old messages still hold
    ∷ [])

unfoldable pub currency_answer : List ℕ → Answer
currency_answer s = code_rule 8 3 currencies s

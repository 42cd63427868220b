mod KeptSample

mod Networks
